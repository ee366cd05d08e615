-- Days counted year by year, from 0000-01-01 on. Definitions only.
use Rattle.std.specs.Prelude.{ℕ, zero, suc, ◌+◌, cond}
use Rattle.calendar.specs.Calendar.{is_leap}

abbrev pub year_length : ℕ → ℕ
year_length y = cond (is_leap y) 366 365

-- the days of the years before y (rule D2)
unfoldable pub days_before : ℕ → ℕ
days_before zero = 0
days_before (suc y) = days_before y + year_length y
