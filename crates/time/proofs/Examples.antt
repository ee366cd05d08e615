-- Times read, computed. Assumes nothing.
use mathlib.Core.Path.{◌≡◌, refl}
use mathlib.Core.List.{[], ◌∷◌}
use Rattle.fraction.specs.of_area.Answer.{gives, refuses}
use Rattle.fraction.specs.of_utf8.Utf8.{need, low, high}
use Rattle.fraction.specs.of_digits.Digits.{digit}
use Rattle.time.specs.Time.{make_time, time_of}
use Rattle.fraction.specs.of_refusal.declared.Cause.TheVariants as cause

-- `5.`
no_fraction : time_of (0x35 ∷ 0x2E ∷ []) ≡ gives (5, 0)
unfolding make_time digit need low high
no_fraction = refl

-- `.5`
no_whole : time_of (0x2E ∷ 0x35 ∷ []) ≡ gives (0, 500000000)
unfolding make_time digit need low high
no_whole = refl

-- `.`
only-point : time_of (0x2E ∷ []) ≡ refuses cause.BadTime
unfolding make_time digit need low high
only-point = refl

-- `+5`
plus-sign : time_of (0x2B ∷ 0x35 ∷ []) ≡ refuses cause.BadTime
unfolding make_time digit need low high
plus-sign = refl

-- ten fraction digits
ten-digits : time_of (0x2E ∷ 0x30 ∷ 0x30 ∷ 0x30 ∷ 0x30 ∷ 0x30 ∷ 0x30 ∷ 0x30 ∷ 0x30 ∷ 0x30 ∷ 0x30 ∷ []) ≡ refuses cause.BadTime
unfolding make_time digit need low high
ten-digits = refl

-- FF behind a digit: no time, and 2 comes before 5
not-utf8 : time_of (0x35 ∷ 0xFF ∷ []) ≡ refuses cause.NotUtf8
unfolding make_time digit need low high
not-utf8 = refl
