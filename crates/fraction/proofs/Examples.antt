-- Fractions, computed. Assumes nothing.
use mathlib.Core.Path.{◌≡◌, refl}
use mathlib.Core.List.{[], ◌∷◌}
use Rattle.digits.specs.Digits.{digit}
use Rattle.std.specs.Prelude.{Some, None}
use Rattle.fraction.specs.Fraction.{billionths_of}

-- `5` and `000000005`
places : (billionths_of (0x35 ∷ []) ≡ Some 500000000) × (billionths_of (0x30 ∷ 0x30 ∷ 0x30 ∷ 0x30 ∷ 0x30 ∷ 0x30 ∷ 0x30 ∷ 0x30 ∷ 0x35 ∷ []) ≡ Some 5)
unfolding digit
places = (refl, refl)

-- ten digits, and none
ten-digits : billionths_of (0x30 ∷ 0x30 ∷ 0x30 ∷ 0x30 ∷ 0x30 ∷ 0x30 ∷ 0x30 ∷ 0x30 ∷ 0x30 ∷ 0x30 ∷ []) ≡ None
unfolding digit
ten-digits = refl

no_digit : billionths_of [] ≡ Some 0
no_digit = refl

-- `a`
letter : billionths_of (0x61 ∷ []) ≡ None
unfolding digit
letter = refl
