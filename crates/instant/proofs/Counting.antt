-- Dates are counted day by day. Assumes nothing.
use Prim.Native.Nat.{ℕ, zero, suc, ◌+◌, ◌-◌, ◌*◌}
use mathlib.Core.Path.{◌≡◌, refl, ap, ◌∙◌}
use native.Mathlib.Omega.{arith}
use Rattle.days.specs.of_calendar.Calendar.{is_leap, month_length}
use Rattle.timestamp.specs.declared.Moment.{Moment}
use Rattle.days.specs.Dates.{IsDate, day_number}
use Rattle.days.proofs.Dates.{day-by-day}
use Rattle.instant.specs.Instant.{date_of, clock_of, instant_of, day_after, Counted}
use Rattle.instant.proofs.Reached.{reached}

is-first : IsDate (record { year = 0; month = 1; day = 1 })
unfolding month_length is_leap
is-first = record { month_from = omega arith; month_to = omega arith; day_from = omega arith; day_to = omega arith }

pub counted-date : (n : ℕ) → IsDate (day_after n)
counted-date zero = is-first
counted-date (suc n) = day-by-day.stays (day_after n) (counted-date n)

pub counted-number : (n : ℕ) → day_number (day_after n) ≡ n
counted-number zero = day-by-day.first
counted-number (suc n) = let e = day-by-day.next (day_after n) (counted-date n) in omega (arith, e, counted-number n)

instant-seconds : (m : Moment) → (instant_of m).seconds ≡ day_number (date_of m) * 86400 + clock_of m + (2878 - m.offset) * 60
unfolding instant_of
instant-seconds m = refl

pub counted : Counted
counted = record {
  dates = counted-date;
  every = reached;
  instants = λ m n e h. let d : day_number (date_of m) ≡ n = ap day_number e ∙ counted-number n in omega (arith, d, instant-seconds m, h);
}
