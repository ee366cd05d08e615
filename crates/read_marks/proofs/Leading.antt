-- Of attributes in order, one that differs from the one before it is the first of its group. Assumes nothing.
use Prim.Native.Nat.{ℕ, suc, ◌-◌, ◌≤◌, ◌<◌}
use mathlib.Core.Path.{◌≡◌, refl, sym, ap, subst, ◌∙◌}
use mathlib.Core.Logic.{◌⊎◌, inl, inr}
use mathlib.Core.Bool.{Bool, true, false, cond, not, false≢true}
use mathlib.Core.List.{List, [], ◌∷◌}
use native.Mathlib.Omega.{arith}
use borrow.Author.Tests.{not-true, eq-eqb, eqb-true, eqb-false, ltb-true, ltb-false}
use lib.Dec.{eqb, ltb}
use lib.ListN.{length, get_or}
use Rattle.key_sort.specs.of_text.Value.{value_text}
use Rattle.key_sort.specs.of_table.Event.{key_at}
use Rattle.key_sort.specs.of_names.Names.{same_bytes}
use Rattle.key_sort.proofs.of_names.NameLaws.{same_true}
use Rattle.key_sort.specs.of_key_order.inside.KeyOrder.{Comes, common_length, comes}
use Rattle.key_sort.proofs.of_key_order.Ordering.{comes-same, comes-tied}
use Rattle.key_sort.proofs.of_key_order.Testing.{by_number}
use Rattle.key_sort.specs.of_clean_order.inside.CleanOrder.{ComesBy}
use Rattle.key_sort.specs.inside.Arranged.{Arranged}
use Rattle.key_sort.proofs.Counting.{count-in, Placed, placed, ordered_at}
use Rattle.read_marks.specs.inside.Marks.{stored_for, New, Leads}

-- a key has all of its bytes in common with itself
common-self : (k : List ℕ) → length k ≡ common_length k k
unfolding common_length
common-self [] = refl
common-self (x ∷ xs) = ap suc (common-self xs) ∙ sym (ap (λ (t : Bool). cond t (suc (common_length xs xs)) 0) (eq-eqb x x refl))

-- no two alike are told apart
pub unlike : (k l : List ℕ) {r : Bool} → r ≡ comes k l 0 0 → not r ≡ true → l ≡ k → ⊥
unlike k l {r} e f q =
    let s : true ≡ comes k k 0 0 = by_number {k = k} {l = k} refl refl 0 0 refl (common-self k) refl in
    false≢true (sym (not-true r f) ∙ e ∙ ap (λ (m : List ℕ). comes k m 0 0) q ∙ sym s)

module _ (attributes source l : List ℕ) (first end : ℕ) (wide : first ≤ end) (a : Arranged (ComesBy true attributes source) first (end - first) l) where
  abbrev key : ℕ → List ℕ
  key j = stored_for attributes source j

  member : (j : ℕ) → first ≤ j → j < end → Placed j l
  member j h k = placed j l (subst (λ (n : ℕ). 0 < n) (sym (a.all j)) (count-in j first (end - first) h (omega arith)))

  in_order : {i j : ℕ} (p q : ℕ) → get_or l p 0 ≡ i → get_or l q 0 ≡ j → p < q → q < length l → Comes (key i) (key j) i j
  in_order {i} {j} p q e f h k =
      subst (λ (y : ℕ). Comes (key i) (key y) i y) f
      (subst (λ (x : ℕ). Comes (key x) (key (get_or l q 0)) x (get_or l q 0)) e (ordered_at (ComesBy true attributes source) l p q a.ordered h k))

  -- what stands between two alike is like them
  between : (i j p q : ℕ) → key i ≡ key j → get_or l p 0 ≡ i → get_or l q 0 ≡ j → p < q → q < length l → key (get_or l (q - 1) 0) ≡ key j
  between i j p q e f g h k = go (ltb p (q - 1)) refl
    where
      go : (t : Bool) → ltb p (q - 1) ≡ t → key (get_or l (q - 1) 0) ≡ key j
      go true o =
          let s : Comes (key i) (key (get_or l (q - 1) 0)) i (get_or l (q - 1) 0) = in_order p (q - 1) f refl (ltb-true p (q - 1) o) (omega arith) in
          let t : Comes (key (get_or l (q - 1) 0)) (key j) (get_or l (q - 1) 0) j = in_order (q - 1) q refl g (omega arith) k in
          sym (comes-same (key i) (key (get_or l (q - 1) 0)) s (subst (λ (x : List ℕ). Comes (key (get_or l (q - 1) 0)) x (get_or l (q - 1) 0) j) (sym e) t)) ∙ e
      go false o = let n = ltb-false p (q - 1) o in let z : p ≡ q - 1 = omega arith in ap key (sym (ap (λ (x : ℕ). get_or l x 0) z) ∙ f) ∙ e

  never : (i j q : ℕ) → first ≤ i → i < j → j < end → q < length l → get_or l q 0 ≡ j → Leads attributes source l q → key i ≡ key j → ⊥
  never i j q h k o m g lead e = go (ltb x.at q) refl
    where
      x : Placed i l
      x = member i h (omega arith)

      after : (q ≡ 0) ⊎ (key (get_or l (q - 1) 0) ≡ key (get_or l q 0) → ⊥) → x.at < q → ⊥
      after (inl z) n = omega arith
      after (inr z) n = z (between i j x.at q e x.is g n m ∙ ap key (sym g))

      go : (t : Bool) → ltb x.at q ≡ t → ⊥
      go true s = after lead (ltb-true x.at q s)
      go false s = apart (eqb x.at q) refl (ltb-false x.at q s)
        where
          apart : (t : Bool) → eqb x.at q ≡ t → q ≤ x.at → ⊥
          apart true z n = let y = eqb-true x.at q z in let d : i ≡ j = sym x.is ∙ ap (λ (p : ℕ). get_or l p 0) y ∙ g in omega arith
          apart false z n =
              let y = eqb-false x.at q z in
              let d = comes-tied (key j) (key i) (sym e) (in_order q x.at g x.is (omega (arith, y)) x.low) in
              omega arith

  -- number q of the list leads its group
  pub leads-new : (j q : ℕ) → first ≤ j → j < end → q < length l → get_or l q 0 ≡ j → Leads attributes source l q → New attributes source first j
  leads-new j q f o m g lead i h k = go (same_bytes (key i) (key j)) refl
    where
      go : (t : Bool) → same_bytes (key i) (key j) ≡ t → t ≡ false
      go true s = absurd (never i j q h k o m g lead (same_true (key i) (key j) s))
      go false s = refl

-- what comparing with the one before it tells
pub leads-other : (attributes source l : List ℕ) (p : ℕ) {i j : ℕ} {k m : List ℕ} {r : Bool} → i ≡ get_or l (p - 1) 0 → j ≡ get_or l p 0 → k ≡ key_at attributes source j → m ≡ key_at attributes source i
    → r ≡ comes (value_text k) (value_text m) 0 0 → not r ≡ true → Leads attributes source l p
leads-other attributes source l p {i} {j} {k} {m} a b c d e f =
    inr (λ q. unlike (value_text k) (value_text m) e f
    (ap value_text (d ∙ ap (key_at attributes source) a) ∙ q ∙ sym (ap value_text (c ∙ ap (key_at attributes source) b))))
