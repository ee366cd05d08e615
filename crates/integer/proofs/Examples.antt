-- Integers, computed. Assumes nothing.
use mathlib.Core.Path.{◌≡◌, refl}
use mathlib.Core.List.{[], ◌∷◌}
use Rattle.names.specs.of_area.Answer.{gives, refuses}
use Rattle.digits.specs.of_utf8.Utf8.{need, low, high}
use Rattle.names.specs.Bytes.{bytes}
use Rattle.digits.specs.Digits.{digit, is_number}
use Rattle.integer.specs.Integer.{unsigned, integer_of}
use Rattle.names.specs.of_refusal.declared.Cause.TheVariants as cause

-- no integer, and not UTF-8: 2 comes before 3
two-before-three : (integer_of (0x2D ∷ 0xFF ∷ []) ≡ refuses cause.NotUtf8) × (integer_of (0x35 ∷ 0xC3 ∷ []) ≡ refuses cause.NotUtf8)
unfolding unsigned is_number digit need low high
two-before-three = (refl, refl)

-- UTF-8, and no integer: a digit of another script, U+0665
other-digit : integer_of (0xD9 ∷ 0xA5 ∷ []) ≡ refuses cause.BadInteger
unfolding unsigned is_number digit need low high
other-digit = refl

limit : (integer_of (bytes "18446744073709551615") ≡ gives 18446744073709551615) × (integer_of (bytes "18446744073709551616") ≡ refuses cause.BadInteger)
unfolding unsigned is_number digit need low high
limit = (refl, refl)

signs : (integer_of (bytes "++5") ≡ refuses cause.BadInteger) × (integer_of (bytes "+") ≡ refuses cause.BadInteger)
    × (integer_of [] ≡ refuses cause.BadInteger) × (integer_of (bytes "-5") ≡ refuses cause.BadInteger)
unfolding unsigned is_number digit need low high
signs = (refl, refl, refl, refl)

zeros-first : integer_of (bytes "+007") ≡ gives 7
unfolding unsigned is_number digit need low high
zeros-first = refl
