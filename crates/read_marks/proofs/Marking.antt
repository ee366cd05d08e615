-- The words of attributes, one after the other. Assumes nothing.
use Prim.Native.Nat.{ℕ, ◌+◌, ◌-◌, ◌≤◌, ◌<◌}
use mathlib.Core.Path.{◌≡◌, refl, sym, ap, subst, ◌∙◌}
use mathlib.Core.Bool.{Bool, true, false, cond, ◌&&◌, and-eq-true_iff}
use mathlib.Core.List.{List}
use native.Mathlib.Omega.{arith}
use borrow.Author.Tests.{eqb-true, eqb-false, leb-true, ltb-true}
use lib.Dec.{eqb, leb, ltb}
use lib.ListN.{length, get_or, set}
use lib.Seq.{get_or-set_same, get_or-set_other}
use Rattle.read_marks.specs.inside.Marks.{New, Marks}

module _ (attributes source words : List ℕ) {first end j mark : ℕ} (m : Marks attributes source first words) (fits : end - first ≤ length words)
    (new : mark ≡ 1 → first ≤ j → j < end → New attributes source first j) where
  stored : first ≤ j → j < end → Marks attributes source first (set words (j - first) mark)
  stored f o i e = go (eqb i (j - first)) refl
    where
      go : (t : Bool) → eqb i (j - first) ≡ t → New attributes source first (first + i)
      go true q =
          let z = eqb-true i (j - first) q in
          let y : j ≡ first + i = omega arith in
          let v : mark ≡ 1 = sym (get_or-set_same words (j - first) mark 0 (omega arith)) ∙ ap (λ (k : ℕ). get_or (set words (j - first) mark) k 0) (sym z) ∙ e in
          subst (λ (k : ℕ). New attributes source first k) y (new v f o)
      go false q = m i (sym (get_or-set_other words (j - first) i mark 0 (eqb-false i (j - first) q)) ∙ e)

  -- the word of attribute j was put, where it is in the range
  pub marks-put : {words' : List ℕ} → words' ≡ cond (leb first j && ltb j end) (set words (j - first) mark) words → Marks attributes source first words'
  marks-put {words'} e = go (leb first j) refl (ltb j end) refl e
    where
      go : (t : Bool) → leb first j ≡ t → (u : Bool) → ltb j end ≡ u → words' ≡ cond (t && u) (set words (j - first) mark) words → Marks attributes source first words'
      go true p true q e = subst (λ (l : List ℕ). Marks attributes source first l) (sym e) (stored (leb-true first j p) (ltb-true j end q))
      go true p false q e = subst (λ (l : List ℕ). Marks attributes source first l) (sym e) m
      go false p u q e = subst (λ (l : List ℕ). Marks attributes source first l) (sym e) m

-- what the test of the range tells
pub in-range : (first j end : ℕ) → (leb first j && ltb j end) ≡ true → (first ≤ j) × (j < end)
in-range first j end e = let p = (and-eq-true_iff (leb first j) (ltb j end)).0 e in (leb-true first j p.0, ltb-true j end p.1)

pub chosen_by : {A : Type 0} (t : Bool) {u : Bool} (a b : A) → t ≡ u → cond u a b ≡ cond t a b
chosen_by t a b e = ap (λ (v : Bool). cond v a b) (sym e)
