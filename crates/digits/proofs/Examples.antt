-- Numbers read and printed, computed. Assumes nothing.
use mathlib.Core.Path.{◌≡◌, refl}
use mathlib.Core.List.{[], ◌∷◌}
use Rattle.digits.specs.Digits.{digit, is_number, number_in, last_digits_of, places, decimal}
use Rattle.std.specs.Prelude.{Some, None}

-- `255`, `256`, `0255`, nothing
limit : (number_in 10 255 (0x32 ∷ 0x35 ∷ 0x35 ∷ []) ≡ Some 255) × (number_in 10 255 (0x32 ∷ 0x35 ∷ 0x36 ∷ []) ≡ None)
    × (number_in 10 255 (0x30 ∷ 0x32 ∷ 0x35 ∷ 0x35 ∷ []) ≡ Some 255) × (number_in 10 255 [] ≡ None)
unfolding number_in is_number digit
limit = (refl, refl, refl, refl)

-- `fF`, `g`, `G`, `f` as a decimal digit
letters : (number_in 16 65535 (0x66 ∷ 0x46 ∷ []) ≡ Some 255) × (number_in 16 65535 (0x67 ∷ []) ≡ None) × (number_in 16 65535 (0x47 ∷ []) ≡ None) × (number_in 10 65535 (0x66 ∷ []) ≡ None)
unfolding number_in is_number digit
letters = (refl, refl, refl, refl)

-- `/` and `:`, beside the digits
beside : (number_in 10 9 (0x2F ∷ []) ≡ None) × (number_in 10 9 (0x3A ∷ []) ≡ None)
unfolding number_in is_number digit
beside = (refl, refl)

-- `0`, `10`, and the largest number
printed : (decimal 0 ≡ 0x30 ∷ []) × (decimal 10 ≡ 0x31 ∷ 0x30 ∷ [])
    × (decimal 18446744073709551615 ≡ 0x31 ∷ 0x38 ∷ 0x34 ∷ 0x34 ∷ 0x36 ∷ 0x37 ∷ 0x34 ∷ 0x34 ∷ 0x30 ∷ 0x37 ∷ 0x33 ∷ 0x37 ∷ 0x30 ∷ 0x39 ∷ 0x35 ∷ 0x35 ∷ 0x31 ∷ 0x36 ∷ 0x31 ∷ 0x35 ∷ [])
unfolding decimal places
printed = (refl, refl, refl)

-- zeros in front, and digits left out there
last_digits : (last_digits_of 3 7 ≡ 0x30 ∷ 0x30 ∷ 0x37 ∷ []) × (last_digits_of 3 1234 ≡ 0x32 ∷ 0x33 ∷ 0x34 ∷ [])
last_digits = (refl, refl)
