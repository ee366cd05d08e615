-- Days and instants, computed. Assumes nothing.
use Prim.Native.Nat.{ℕ}
use mathlib.Core.Path.{◌≡◌, refl}
use Rattle.days.specs.of_calendar.Calendar.{is_leap, month_length}
use Rattle.timestamp.specs.declared.Moment.{Moment}
use Rattle.days.specs.Days.{days_before}
use Rattle.days.specs.Dates.{Date, next_day, days_before_month, day_number}
use Rattle.instant.specs.Instant.{instant_of}

abbrev on : ℕ → ℕ → ℕ → Date
on y m d = record { year = y; month = m; day = d }

-- the year 0000 is a leap year, 1900 isn't, 2000 is
leap_days : (day_number (on 0 2 29) ≡ 59) × (day_number (on 0 3 1) ≡ 60) × (next_day (on 0 2 28) ≡ on 0 2 29)
    × (next_day (on 1900 2 28) ≡ on 1900 3 1) × (next_day (on 2000 2 28) ≡ on 2000 2 29) × (next_day (on 1999 12 31) ≡ on 2000 1 1)
unfolding day_number days_before days_before_month next_day month_length is_leap
leap_days = (refl, refl, refl, refl, refl, refl)

-- 1990-12-31T15:59:59-08:00 is 23:59:59Z
abbrev west : Moment
west = record { year = 1990; month = 12; day = 31; hour = 15; minute = 59; second = 59; nanos = 0; offset = 959 }

abbrev east : Moment
east = record { year = 1990; month = 12; day = 31; hour = 23; minute = 59; second = 59; nanos = 0; offset = 1439 }

same-instant : instant_of west ≡ instant_of east
unfolding instant_of day_number days_before days_before_month month_length is_leap
same-instant = refl

-- offsets carry an instant over the border of a year: 0000-01-01T00:00+23:59 is the first of all
zero-at : instant_of (record { year = 0; month = 1; day = 1; hour = 0; minute = 0; second = 0; nanos = 0; offset = 2878 }) ≡ record { seconds = 0; nanos = 0 }
unfolding instant_of day_number days_before days_before_month month_length is_leap
zero-at = refl
