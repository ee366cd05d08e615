-- Along the records, one after the other. Assumes nothing.
use Prim.Native.Nat.{ℕ, suc, ◌+◌, ◌-◌, ◌*◌, ◌≤◌, ◌<◌}
use mathlib.Core.Path.{◌≡◌, refl, sym, ap, ◌∙◌}
use mathlib.Core.List.{List, [], ◌∷◌}
use mathlib.Core.Bool.{Bool, true, false, ◌&&◌, ◌||◌, true≢false}
use native.Mathlib.Omega.{arith}
use borrow.Author.Tests.{le-leb, lt-leb, ne_eqb, eqb-true, eqb-false}
use lib.Dec.{eqb, leb}
use lib.ListN.{length, take, drop, get_or, length-drop, drop_of_length-le}
use lib.Seq.{get_or-take}
use Rattle.list_sums.proofs.of_area.Parts.{rest_part}
use Rattle.list_sums.specs.inside.Rows.{stands, records_in}
use Rattle.list_sums.proofs.Records.{stands-room, records-here, records-over}
use Rattle.list_sums.specs.of_tree_report.Fields.{kind_of}
use Rattle.write_items.specs.inside.Walk.{ends_at, is_between, own_of, between, first_of}

-- whether a record stands at `at`, by its kind
module _ (words : List ℕ) (at : ℕ) where
  abbrev part : List ℕ
  part = take (length words - at) (drop at words)

  same-kind : get_or (take (at + 32 - at) (drop at words)) 0 0 ≡ get_or part 0 0
  same-kind = get_or-take (at + 32 - at) (drop at words) 0 0 (omega arith) ∙ ap (λ (l : List ℕ). get_or l 0 0) (sym (rest_part words at))

  size : length part ≡ length words - at
  size = ap length (rest_part words at) ∙ length-drop at words

  pub stands-there : at + 32 ≤ length words → (get_or (take (at + 32 - at) (drop at words)) 0 0 ≡ 0 → ⊥) → stands part ≡ true
  stands-there h n = rw (le-leb 32 (length part) (omega (arith, size)), ne_eqb (get_or part 0 0) 0 (λ z. n (same-kind ∙ z))) refl

  pub none-there : get_or (take (at + 32 - at) (drop at words)) 0 0 ≡ 0 → stands part ≡ false
  none-there z = rw (sym same-kind ∙ z) (go (leb 32 (length part)))
    where
      go : (b : Bool) → (b && false) ≡ false
      go true = refl
      go false = refl

  pub none-behind : length words < at + 32 → stands part ≡ false
  none-behind h = rw (lt-leb 32 (length part) (omega (arith, size))) refl

module _ (level low high : ℕ) where
  abbrev found : List (List ℕ) → List (List ℕ)
  found rs = between low high (own_of level rs)

  module _ (r : List ℕ) (rs : List (List ℕ)) where
    found-end : ends_at level (kind_of r) ≡ true → found (r ∷ rs) ≡ []
    found-end e = rw e refl

    found_here : ends_at level (kind_of r) ≡ false → is_between low high (kind_of r) ≡ true → found (r ∷ rs) ≡ r ∷ found rs
    found_here e h = rw (e, h) refl

    found-pass : ends_at level (kind_of r) ≡ false → is_between low high (kind_of r) ≡ false → found (r ∷ rs) ≡ found rs
    found-pass e h = rw (e, h) refl

  module _ (words : List ℕ) where
    abbrev all : List (List ℕ)
    all = found (records_in words)

    -- ---- the first of them
    pub record Seeking (at : ℕ) : Type 0 where
      pub fits : at ≤ length words
      pub left : first_of (found (records_in (drop at words))) ≡ first_of all

    pub seeking-start : Seeking 0
    seeking-start = record { fits = omega arith; left = refl }

    nothing-behind : take 32 (drop (length words) words) ≡ []
    nothing-behind = rw (drop_of_length-le words {i = length words} (omega arith)) refl

    module _ {at : ℕ} (g : Seeking at) where
      pub seeking-over : stands (take (length words - at) (drop at words)) ≡ false → take 32 (drop (length words) words) ≡ first_of all
      seeking-over e = nothing-behind ∙ ap (λ (l : List (List ℕ)). first_of (found l)) (sym (records-over words at e)) ∙ g.left

      module _ (s : stands (take (length words - at) (drop at words)) ≡ true) where
        abbrev here : List ℕ
        here = take (at + 32 - at) (drop at words)

        abbrev rest : List (List ℕ)
        rest = records_in (drop (at + 32) words)

        turned : first_of (found (here ∷ rest)) ≡ first_of all
        turned = ap (λ (l : List (List ℕ)). first_of (found l)) (sym (records-here words at s)) ∙ g.left

        pub seeking-end : ends_at level (kind_of here) ≡ true → take 32 (drop (length words) words) ≡ first_of all
        seeking-end e = nothing-behind ∙ ap first_of (sym (found-end here rest e)) ∙ turned

        pub seeking-found : ends_at level (kind_of here) ≡ false → is_between low high (kind_of here) ≡ true → take 32 (drop at words) ≡ first_of all
        seeking-found e h =
            let z : at + 32 - at ≡ 32 = omega arith in
            ap (λ (n : ℕ). take n (drop at words)) (sym z) ∙ ap first_of (sym (found_here here rest e h)) ∙ turned

        pub seeking-pass : ends_at level (kind_of here) ≡ false → is_between low high (kind_of here) ≡ false → Seeking (at + 32)
        seeking-pass e h = record { fits = stands-room words at s; left = ap first_of (sym (found-pass here rest e h)) ∙ turned }

    -- ---- how many they are
    pub record Counting (n at : ℕ) : Type 0 where
      pub fits : at ≤ length words
      pub most : n * 32 ≤ at
      pub left : n + length (found (records_in (drop at words))) ≡ length all

    pub counting-start : Counting 0 0
    counting-start = record { fits = omega arith; most = omega arith; left = omega arith }

    module _ {n at : ℕ} (g : Counting n at) where
      pub counting-over : stands (take (length words - at) (drop at words)) ≡ false → n ≡ length all
      counting-over e =
          let z : length (found (records_in (drop at words))) ≡ 0 = ap (λ (l : List (List ℕ)). length (found l)) (records-over words at e) in
          omega (arith, g.left)

      module _ (s : stands (take (length words - at) (drop at words)) ≡ true) where
        abbrev here₂ : List ℕ
        here₂ = take (at + 32 - at) (drop at words)

        abbrev rest₂ : List (List ℕ)
        rest₂ = records_in (drop (at + 32) words)

        turned₂ : length (found (records_in (drop at words))) ≡ length (found (here₂ ∷ rest₂))
        turned₂ = ap (λ (l : List (List ℕ)). length (found l)) (records-here words at s)

        pub counting-end : ends_at level (kind_of here₂) ≡ true → n ≡ length all
        counting-end e =
            let z : length (found (here₂ ∷ rest₂)) ≡ 0 = ap length (found-end here₂ rest₂ e) in
            omega (arith, g.left, turned₂)

        pub counting_more : ends_at level (kind_of here₂) ≡ false → is_between low high (kind_of here₂) ≡ true → Counting (n + 1) (at + 32)
        counting_more e h =
            let z : length (found (here₂ ∷ rest₂)) ≡ suc (length (found rest₂)) = ap length (found_here here₂ rest₂ e h) in
            record { fits = stands-room words at s; most = omega (arith, g.most); left = omega (arith, g.left, turned₂) }

        pub counting-pass : ends_at level (kind_of here₂) ≡ false → is_between low high (kind_of here₂) ≡ false → Counting n (at + 32)
        counting-pass e h =
            let z : length (found (here₂ ∷ rest₂)) ≡ length (found rest₂) = ap length (found-pass here₂ rest₂ e h) in
            record { fits = stands-room words at s; most = omega (arith, g.most); left = omega (arith, g.left, turned₂) }

-- a turn that ends at a record: no record stands there, or it is the next of its level
module _ (level : ℕ) (words : List ℕ) (at h : ℕ) (e : Bool) (fits : at + 32 ≤ length words) (k : h ≡ get_or (take (at + 32 - at) (drop at words)) 0 0) (l : e ≡ ends_at level h) where
  pub seeking-left : (low high : ℕ) → Seeking level low high words at → (eqb h 0 || e) ≡ true → take 32 (drop (length words) words) ≡ first_of (all level low high words)
  seeking-left low high g t = go (eqb h 0) refl
    where
      go : (b : Bool) → eqb h 0 ≡ b → take 32 (drop (length words) words) ≡ first_of (all level low high words)
      go true q = seeking-over level low high words g (none-there words at (sym k ∙ eqb-true h 0 q))
      go false q = seeking-end level low high words g (stands-there words at fits (λ z. eqb-false h 0 q (k ∙ z))) (rw k at (sym l ∙ rw q at t))

  pub counting-left : (low high n : ℕ) → Counting level low high words n at → (eqb h 0 || e) ≡ true → n ≡ length (all level low high words)
  counting-left low high n g t = go (eqb h 0) refl
    where
      go : (b : Bool) → eqb h 0 ≡ b → n ≡ length (all level low high words)
      go true q = counting-over level low high words g (none-there words at (sym k ∙ eqb-true h 0 q))
      go false q = counting-end level low high words g (stands-there words at fits (λ z. eqb-false h 0 q (k ∙ z))) (rw k at (sym l ∙ rw q at t))

  -- and one that goes on: a record stands there, which is not
  pub goes-on : (eqb h 0 || e) ≡ false → (stands (take (length words - at) (drop at words)) ≡ true) × (ends_at level h ≡ false)
  goes-on t = go (eqb h 0) refl
    where
      go : (b : Bool) → eqb h 0 ≡ b → (stands (take (length words - at) (drop at words)) ≡ true) × (ends_at level h ≡ false)
      go true q = absurd (true≢false (rw q at t))
      go false q = (stands-there words at fits (λ z. eqb-false h 0 q (k ∙ z)), sym l ∙ rw q at t)

-- the kind of the record that stands there
pub kind-there : (words f : List ℕ) (at : ℕ) → take 32 (drop at words) ≡ f → get_or (take (length words - at) (drop at words)) 0 0 ≡ kind_of f
kind-there words f at e =
    ap (λ (l : List ℕ). get_or l 0 0) (rest_part words at)
    ∙ sym (get_or-take 32 (drop at words) 0 0 (omega arith))
    ∙ ap (λ (l : List ℕ). get_or l 0 0) e
