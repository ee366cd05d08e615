-- Words of zero, in the terms of code that goes along them. Assumes nothing.
use Prim.Native.Nat.{ℕ}
use mathlib.Core.Bool.{Bool, not, ◌&&◌, not-not}
use mathlib.Core.List.{List, ◌∷◌}
use mathlib.Core.Path.{◌≡◌, sym, ap}
use lib.Dec.{eqb}
use Rattle.tree_report.specs.Layout.{all_zero}

-- an element's test, as the code makes it
pub zero-next : (b : ℕ) (t : List ℕ) → all_zero (b ∷ t) ≡ (not (not (eqb b 0)) && all_zero t)
zero-next b t = ap (λ (u : Bool). u && all_zero t) (sym (not-not (eqb b 0)))
