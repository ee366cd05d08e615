-- How many status elements a case then has. Assumes nothing.
use Prim.Native.Nat.{ℕ, zero, suc, ◌+◌, ◌≤◌}
use mathlib.Core.Bool.{Bool, true, false, cond, ◌||◌}
use mathlib.Core.Path.{◌≡◌, refl}
use native.Mathlib.Omega.{arith}
use borrow.Author.Tests.{lt-ltb}
use lib.Dec.{leb, ltb}
use Rattle.tree_status.specs.declared.Tally.{Tally}
use Rattle.tree_status.specs.Status.{no_status, tallied, Few}

-- a tally with no count above n has none above a larger number
pub few-more : {n m : ℕ} {t : Tally} → Few n t → n ≤ m → Few m t
few-more f h = record { mains = omega arith; flaky = omega arith; reruns = omega arith }

-- the empty tally has no count above any number
pub few-none : (n : ℕ) → Few n no_status
few-none n = record { mains = omega arith; flaky = omega arith; reruns = omega arith }

few-cond : {n : ℕ} (b : Bool) {t u : Tally} → Few n t → Few n u → Few n (cond b t u)
few-cond true f g = f
few-cond false f g = g

-- one status element more
pub few-tallied : {n : ℕ} (t : Tally) (k : ℕ) → Few n t → Few (suc n) (tallied t k)
unfolding tallied
few-tallied {n} t k f =
    few-cond (leb k 8) (record { mains = omega arith; flaky = omega arith; reruns = omega arith })
    (few-cond (leb k 10) (record { mains = omega arith; flaky = omega arith; reruns = omega arith })
    (record { mains = omega arith; flaky = omega arith; reruns = omega arith }))

-- one of two numbers is not zero
pub sum-positive : (a b : ℕ) → ltb 0 (a + b) ≡ (ltb 0 a || ltb 0 b)
sum-positive zero b = simp zero-plus
  where
    zero-plus : (n : ℕ) → 0 + n ≡ n
    zero-plus n = omega arith
sum-positive (suc a) b = rw (lt-ltb 0 (suc a + b) (omega arith), lt-ltb 0 (suc a) (omega arith)) refl
