-- What stands for every code from the last on. Assumes nothing.
use Prim.Native.Nat.{ℕ, zero, suc, ◌≤◌}
use mathlib.Core.Path.{◌≡◌, refl}
use mathlib.Core.List.{List, [], ◌∷◌, ◌++◌}
use native.Mathlib.Omega.{arith}
use lib.ListN.{length, get_or}

pub last : {A : Type 0} (xs : List A) (x : A) (n : ℕ) → length xs ≤ n → x ≡ get_or (xs ++ (x ∷ [])) n x
last [] x zero h = refl
last [] x (suc n) h = refl
last (y ∷ xs) x zero h = absurd (omega (arith, h))
last (y ∷ xs) x (suc n) h = last xs x n (omega (arith, h))
