-- How far off times are written, computed. Assumes nothing.
use mathlib.Core.Path.{◌≡◌, refl}
use mathlib.Core.List.{[], ◌∷◌}
use mathlib.Core.Bool.{false}
use Prim.Native.Nat.{◌+◌, ◌*◌}
use lib.Ieee.{add, sum, div, of_int, round, units, odd, size, span, climb}
use lib.Ieee.Nearest.{closest}
use lib.Count.{count_trailing_zeros}
use Rattle.time.specs.of_digits.Digits.{digit, places, decimal}
use Rattle.time.specs.Time.{make_time, is_time}
use Rattle.time_text.specs.Written.{float_sum, thousandths_of, time_text, written_time}
use Rattle.time_text.specs.Distance.{stored_nanoseconds, thousandths_in, written_nanoseconds}

-- the bound is reached on either side: 62.5 thousandths are written as 62, and 187.5 as 188
less-by_half : written_nanoseconds 0 62500000 + 500000 ≡ stored_nanoseconds 0 62500000
unfolding thousandths_in digit time_text decimal places float_sum thousandths_of add sum div of_int round units odd size span climb count_trailing_zeros
less-by_half = refl

more-by_half : written_nanoseconds 0 187500000 ≡ stored_nanoseconds 0 187500000 + 500000
unfolding thousandths_in digit time_text decimal places float_sum thousandths_of add sum div of_int round units odd size span climb count_trailing_zeros
more-by_half = refl

-- Ties that the float sum decides otherwise than the stored time would be: half a thousandth is above the tie as a float and is written as 1, though 0
-- is even, and the last tie under the limit is below it. Found by a search over all 8,388,608,000 ties, seconds under the limit and nanoseconds that end
-- in 500000, with the sum in hardware floats and its exact distance from the tie: 67,108,864 sums are the tie itself, and 4,160,749,573 are decided
-- otherwise, 2,080,374,788 of them upwards.
first-by_decimals : closest (stored_nanoseconds 0 500000) 1000000 ≡ 0
first-by_decimals = refl

first-by_float : written_time 0 500000 ≡ 0x30 ∷ 0x2E ∷ 0x30 ∷ 0x30 ∷ 0x31 ∷ []
unfolding time_text decimal places float_sum thousandths_of add sum div of_int round units odd size span climb count_trailing_zeros
first-by_float = refl

last-by_decimals : closest (stored_nanoseconds 8388607 999500000) 1000000 ≡ 8388608000
last-by_decimals = refl

last-by_float : thousandths_in (written_time 8388607 999500000) ≡ 8388607999
unfolding thousandths_in digit time_text decimal places float_sum thousandths_of add sum div of_int round units odd size span climb count_trailing_zeros
last-by_float = refl

-- one nanosecond more is written as 8388608 seconds, which is no time to read
limit-reached : written_nanoseconds 8388607 999500001 ≡ 8388608 * 1000000000
unfolding thousandths_in digit time_text decimal places float_sum thousandths_of add sum div of_int round units odd size span climb count_trailing_zeros
limit-reached = refl

limit-unread : is_time (written_time 8388607 999500001) ≡ false
unfolding make_time digit time_text decimal places float_sum thousandths_of add sum div of_int round units odd size span climb count_trailing_zeros
limit-unread = refl
