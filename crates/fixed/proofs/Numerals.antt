-- A field of a text that was read as a number. Assumes nothing.
use Prim.Native.Nat.{ℕ, ◌≤◌}
use mathlib.Core.Path.{◌≡◌}
use mathlib.Core.List.{List}
use Rattle.std.specs.Prelude.{Some}
use Rattle.digits.specs.Digits.{number_in}
use Rattle.digits.proofs.Numbers.{number-parts, is-number}

-- a field's number is in range
pub field-most : (base most : ℕ) (s : List ℕ) (n : ℕ) → Some n ≡ number_in base most s → n ≤ most
field-most base most s n e = let p = is-number base most s n e in rw p.1 (number-parts base most s p.0).2
