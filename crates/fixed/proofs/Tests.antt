-- A list of tests passes if each of them does. Assumes nothing.
use Prim.Native.Nat.{ℕ, zero, suc}
use mathlib.Core.Path.{◌≡◌, refl, ap}
use mathlib.Core.Bool.{Bool, true, false, ◌&&◌, and-eq-true_iff, true≢false}
use mathlib.Core.List.{List, [], ◌∷◌}
use lib.ListN.{get_or}
use Rattle.fixed.specs.Fields.{all}

-- if all tests pass, the k-th does: the code's way where nothing was refused
pub passes : (ts : List Bool) (k : ℕ) → all ts ≡ true → get_or ts k true ≡ true
passes [] k e = refl
passes (t ∷ ts) zero e = ((and-eq-true_iff t (all ts)).0 e).0
passes (t ∷ ts) (suc k) e = passes ts k ((and-eq-true_iff t (all ts)).0 e).1

-- if the k-th test fails, not all pass: the code's way out at that test
pub fails : (ts : List Bool) (k : ℕ) → get_or ts k true ≡ false → all ts ≡ false
fails [] k h = absurd (true≢false h)
fails (t ∷ ts) zero h = ap (λ (x : Bool). x && all ts) h
fails (true ∷ ts) (suc k) h = fails ts k h
fails (false ∷ ts) (suc k) h = refl
