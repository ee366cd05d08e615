-- The records that words hold, one behind the other. Assumes nothing.
use Prim.Native.Nat.{ℕ, zero, suc, ◌+◌, ◌-◌, ◌/◌, ◌≤◌, ◌<◌}
use mathlib.Core.Path.{◌≡◌, refl, sym, ap, ◌∙◌}
use mathlib.Core.List.{List, [], ◌∷◌}
use mathlib.Core.Bool.{Bool, true, false, not, ◌&&◌, and-eq-true_iff, true≢false}
use native.Mathlib.Omega.{arith}
use borrow.Author.Tests.{eq-eqb, ne_eqb, leb-true, leb-false, eqb-true, eqb-false, not-true}
use lib.Dec.{leb, eqb}
use lib.ListN.{length, get_or, take, drop, length-drop}
use lib.Seq.{drop-drop, take_all}
use Rattle.list_text.specs.of_tree_report.Layout.{records_from}
use Rattle.list_sums.specs.inside.Rows.{stands, records_in}

module _ (w : List ℕ) where
  from_next : (n : ℕ) → (get_or w 0 0 ≡ 0 → ⊥) → records_from (suc n) w ≡ take 32 w ∷ records_from n (drop 32 w)
  unfolding records_from
  from_next n h = rw (ne_eqb (get_or w 0 0) 0 h) refl

  from-none : (n : ℕ) → get_or w 0 0 ≡ 0 → records_from n w ≡ []
  unfolding records_from
  from-none zero e = refl
  from-none (suc n) e = rw (eq-eqb (get_or w 0 0) 0 e) refl

  from_zero : records_from 0 w ≡ []
  unfolding records_from
  from_zero = refl

  -- a record stands there
  pub stands-fits : stands w ≡ true → (32 ≤ length w) × (get_or w 0 0 ≡ 0 → ⊥)
  stands-fits e =
      let p = (and-eq-true_iff (leb 32 (length w)) (not (eqb (get_or w 0 0) 0))).0 e in
      (leb-true 32 (length w) p.0, eqb-false (get_or w 0 0) 0 (not-true (eqb (get_or w 0 0) 0) p.1))

  pub records-next : stands w ≡ true → records_in w ≡ take 32 w ∷ records_in (drop 32 w)
  unfolding records_in
  records-next e =
      let h = stands-fits e in
      let d : length (drop 32 w) ≡ length w - 32 = length-drop 32 w in
      let l = h.0 in
      let n : length w / 32 ≡ suc (length (drop 32 w) / 32) = omega arith in
      ap (λ (m : ℕ). records_from m w) n ∙ from_next (length (drop 32 w) / 32) h.1

  pub records-none : stands w ≡ false → records_in w ≡ []
  unfolding records_in
  records-none e = go (leb 32 (length w)) (eqb (get_or w 0 0) 0) refl refl e
    where
      go : (p q : Bool) → leb 32 (length w) ≡ p → eqb (get_or w 0 0) 0 ≡ q → (p && not q) ≡ false → records_from (length w / 32) w ≡ []
      go true true u v x = from-none (length w / 32) (eqb-true (get_or w 0 0) 0 v)
      go true false u v x = absurd (true≢false x)
      go false q u v x =
          let h : length w < 32 = leb-false 32 (length w) u in
          let n : length w / 32 ≡ 0 = omega arith in
          ap (λ (m : ℕ). records_from m w) n ∙ from_zero

-- from the word `at` on
module _ (words : List ℕ) (at : ℕ) where
  abbrev part : List ℕ
  part = take (length words - at) (drop at words)

  part-rest : part ≡ drop at words
  part-rest = take_all (length words - at) (drop at words) (rw (length-drop at words) (omega arith))

  -- where a record stands, its 32 words lie in the area
  pub stands-room : stands part ≡ true → at + 32 ≤ length words
  stands-room e =
      let h = (stands-fits part e).0 in
      let p : length part ≡ length (drop at words) = ap length part-rest in
      let d : length (drop at words) ≡ length words - at = length-drop at words in
      omega arith

  -- the record at `at`, and the words behind it, as the code lends them
  pub records-here : stands part ≡ true → records_in (drop at words) ≡ take (at + 32 - at) (drop at words) ∷ records_in (drop (at + 32) words)
  records-here e =
      let z : at + 32 - at ≡ 32 = omega arith in
      records-next (drop at words) (ap stands (sym part-rest) ∙ e) ∙ rw (z, drop-drop 32 at words) refl

  -- the part that is lent from the next record on holds the records from there on
  pub records-behind : records_in (take (length words - (at + 32)) (drop (at + 32) words)) ≡ records_in (drop (at + 32) words)
  records-behind = ap records_in (take_all (length words - (at + 32)) (drop (at + 32) words) (rw (length-drop (at + 32) words) (omega arith)))

  -- where no record stands, none follow
  pub records-over : stands part ≡ false → records_in (drop at words) ≡ []
  records-over e = records-none (drop at words) (ap stands (sym part-rest) ∙ e)
