-- One kind after the other taken from the cases, instead of their sum. Assumes nothing.
use Prim.Native.Nat.{ℕ, ◌+◌, ◌-◌, ◌≤◌}
use mathlib.Core.Path.{◌≡◌, refl, sym}
use mathlib.Core.Bool.{Bool, true, false}
use native.Mathlib.Omega.{arith}
use borrow.Author.Tests.{lt-ltb, le-ltb, ltb-true, ltb-false}
use lib.Dec.{ltb}

-- the last kind is more than what the others leave exactly if all together are more than the cases
pub left-exceeds : (c f e s k : ℕ) → f ≤ c → e ≤ c - f → s ≤ c - f - e → ltb (c - f - e - s) k ≡ ltb c (f + e + s + k)
left-exceeds c f e s k p q r = go (ltb (c - f - e - s) k) refl
  where
    go : (b : Bool) → ltb (c - f - e - s) k ≡ b → b ≡ ltb c (f + e + s + k)
    go true t = let h = ltb-true (c - f - e - s) k t in sym (lt-ltb c (f + e + s + k) (omega arith))
    go false t = let h = ltb-false (c - f - e - s) k t in sym (le-ltb c (f + e + s + k) (omega arith))
