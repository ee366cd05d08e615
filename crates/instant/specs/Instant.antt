-- A moment as seconds and nanoseconds, by its date's number, its clock and its offset; the claim that dates are counted day by day. The claim is a
-- type; proofs/Counting.antt has a proof of it. Definitions only.
use Rattle.std.specs.Prelude.{ℕ, zero, suc, ◌+◌, ◌-◌, ◌*◌, ◌≤◌, ◌≡◌}
use Rattle.timestamp.specs.declared.Moment.{Moment}
use Rattle.days.specs.Dates.{Date, IsDate, next_day, day_number}
use Rattle.instant.specs.declared.Instant.{Instant}

abbrev pub date_of : Moment → Date
date_of m = record { year = m.year; month = m.month; day = m.day }

-- seconds of the day
abbrev pub clock_of : Moment → ℕ
clock_of m = m.hour * 3600 + m.minute * 60 + m.second

-- a stored offset is minutes east of UTC, and 1439: taken off of 2878, so that no instant is below zero (rule D3)
unfoldable pub instant_of : Moment → Instant
instant_of m = record { seconds = day_number (date_of m) * 86400 + clock_of m + (2878 - m.offset) * 60; nanos = m.nanos }

-- the date that n steps from one day to the next lead to from 0000-01-01
abbrev pub day_after : ℕ → Date
day_after zero = record { year = 0; month = 1; day = 1 }
day_after (suc n) = next_day (day_after n)

-- every day that is counted is a date, and every date is counted; of a moment on the day n the instant is n days of 86400 seconds, the clock, and the offset taken off
pub record Counted : Type 0 where
  pub dates : (n : ℕ) → IsDate (day_after n)
  pub every : (d : Date) → IsDate d → day_after (day_number d) ≡ d
  pub instants : (m : Moment) (n : ℕ) → date_of m ≡ day_after n → m.offset ≤ 2878
      → (instant_of m).seconds + m.offset * 60 ≡ n * 86400 + clock_of m + 2878 * 60
