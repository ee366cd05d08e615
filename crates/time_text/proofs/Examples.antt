-- Times written, computed. Assumes nothing.
use mathlib.Core.Path.{◌≡◌, refl}
use mathlib.Core.List.{[], ◌∷◌}
use lib.Ieee.{add, sum, div, of_int, round, units, odd, size, span, climb}
use lib.Count.{count_trailing_zeros}
use Rattle.time.specs.of_digits.Digits.{places, decimal}
use Rattle.time_text.specs.Written.{float_sum, thousandths_of, time_text, written_time, whole}

-- half a second is `0.500`
half-written : written_time 0 500000000 ≡ 0x30 ∷ 0x2E ∷ 0x35 ∷ 0x30 ∷ 0x30 ∷ []
unfolding time_text decimal places float_sum thousandths_of add sum div of_int round units odd size span climb count_trailing_zeros
half-written = refl

-- a sixteenth of a second is 62.5 thousandths, a tie
tie_to_even : thousandths_of (float_sum 0 62500000) ≡ 62
unfolding float_sum thousandths_of add sum div of_int round units odd size span climb count_trailing_zeros
tie_to_even = refl

-- the largest time is rounded up
largest-written : thousandths_of (float_sum 8388607 999999999) ≡ 8388608000
unfolding float_sum thousandths_of add sum div of_int round units odd size span climb count_trailing_zeros
largest-written = refl

-- four bytes are too few for `0.500`, and five suffice; what was there goes
too_short : whole (1 ∷ 2 ∷ 3 ∷ 4 ∷ []) (written_time 0 500000000) ≡ 0 ∷ 0 ∷ 0 ∷ 0 ∷ []
unfolding time_text decimal places float_sum thousandths_of add sum div of_int round units odd size span climb count_trailing_zeros
too_short = refl
