-- A place is told in the words behind the records. Assumes nothing.
use Prim.Native.Nat.{ℕ, ◌≤◌, ◌<◌}
use mathlib.Core.Path.{◌≡◌, refl, sym, ap, ◌∙◌}
use mathlib.Core.Bool.{Bool, true, false}
use mathlib.Core.List.{List, ◌++◌}
use native.Mathlib.Omega.{arith}
use borrow.Author.Tests.{eqb-true, eqb-false}
use lib.Dec.{eqb}
use lib.ListN.{length, get_or, set, take, drop}
use lib.Seq.{take_at, drop_at, length-take-le, get_or-set_same, get_or-set_other}
use Rattle.read_places.specs.inside.Told.{Quiet}

module _ (k : ℕ) (front rest : List ℕ) {whole : List ℕ} (fit : length front ≡ k) (e : whole ≡ front ++ rest) where
  pub front-is : take k whole ≡ front
  front-is = ap (take k) e ∙ take_at front rest k fit

  pub rest-is : drop k whole ≡ rest
  rest-is = ap (drop k) e ∙ drop_at front rest k fit

pub quiet-set : (words : List ℕ) (i v : ℕ) → i < length words → 2 ≤ v → Quiet words (set words i v)
quiet-set words i v h l n e = go (eqb n i) refl
  where
    go : (t : Bool) → eqb n i ≡ t → get_or words n 0 ≡ 1
    go true q =
        let z = eqb-true n i q in
        let o : v ≡ 1 = sym (get_or-set_same words i v 0 h) ∙ ap (λ (m : ℕ). get_or (set words i v) m 0) (sym z) ∙ e in
        absurd (omega arith)
    go false q = sym (get_or-set_other words i n v 0 (eqb-false n i q)) ∙ e

module _ (k : ℕ) (own words : List ℕ) {own' : List ℕ} (fits : k ≤ length own) (e : own' ≡ take k own ++ words) where
  pub noted-front : take k own' ≡ take k own
  noted-front = front-is k (take k own) words (length-take-le k own fits) e

  pub noted_quiet : Quiet (drop k own) words → Quiet (drop k own) (drop k own')
  noted_quiet q i h = q i (ap (λ (l : List ℕ). get_or l i 0) (sym (rest-is k (take k own) words (length-take-le k own fits) e)) ∙ h)
