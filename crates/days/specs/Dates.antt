-- Dates of the Gregorian calendar, the day after each, and the number of a day; the claim that the number counts day by day. The claim is a type;
-- proofs/Dates.antt has a proof of it. Definitions only.
use Rattle.std.specs.Prelude.{ℕ, zero, suc, ◌+◌, ◌-◌, ◌≤◌, ◌≡◌, cond, ltb}
use Rattle.calendar.specs.Calendar.{month_length}
use Rattle.days.specs.Days.{days_before}

pub record Date : Type 0 where
  pub year : ℕ
  pub month : ℕ
  pub day : ℕ

-- full-date of RFC 3339: months from 1 to 12, days that the month has
pub record IsDate (d : Date) : Type 0 where
  pub month_from : 1 ≤ d.month
  pub month_to : d.month ≤ 12
  pub day_from : 1 ≤ d.day
  pub day_to : d.day ≤ month_length d.year d.month

-- the day after (rule D1)
unfoldable pub next_day : Date → Date
next_day d =
    cond (ltb d.day (month_length d.year d.month)) (record { year = d.year; month = d.month; day = d.day + 1 })
    (cond (ltb d.month 12) (record { year = d.year; month = d.month + 1; day = 1 }) (record { year = d.year + 1; month = 1; day = 1 }))

-- the days of the months before m; there is no month 0
unfoldable pub days_before_month : ℕ → ℕ → ℕ
days_before_month y zero = 0
days_before_month y (suc m) = days_before_month y m + month_length y m

-- by the days before its year, before its month and in its month (rule D1)
unfoldable pub day_number : Date → ℕ
day_number d = days_before d.year + (days_before_month d.year d.month + (d.day - 1))

-- counted day by day from 0000-01-01, which is day 0
pub record DayByDay : Type 0 where
  pub first : day_number (record { year = 0; month = 1; day = 1 }) ≡ 0
  pub next : (d : Date) → IsDate d → day_number (next_day d) ≡ day_number d + 1
  pub stays : (d : Date) → IsDate d → IsDate (next_day d)
