-- Every date is counted. Assumes nothing.
use Prim.Native.Nat.{ℕ, zero, suc, ◌≤◌, ◌<◌}
use mathlib.Core.Path.{◌≡◌, refl, sym, ap, ◌∙◌}
use native.Mathlib.Omega.{arith}
use native.Mathlib.Numerals.{add-one}
use borrow.Author.Tests.{lt-ltb, le-ltb}
use Rattle.days.specs.of_calendar.Calendar.{month_length}
use Rattle.days.specs.Dates.{Date, IsDate, next_day, day_number}
use Rattle.days.proofs.Dates.{some-days, day-by-day}
use Rattle.instant.specs.Instant.{day_after}

abbrev on : ℕ → ℕ → ℕ → Date
on y m d = record { year = y; month = m; day = d }

abbrev Reached : Date → Type 0
Reached d = day_after (day_number d) ≡ d

-- the day after a date that is counted is counted
one_more : (p d : Date) → IsDate p → next_day p ≡ d → Reached p → Reached d
one_more p d is e r =
    ap day_after (ap day_number (sym e) ∙ day-by-day.next p is ∙ add-one (day_number p)) ∙ ap next_day r ∙ e

next-in-month : (y m d : ℕ) → d < month_length y m → next_day (on y m d) ≡ on y m (suc d)
unfolding next_day
next-in-month y m d h = rw (lt-ltb d (month_length y m) h, add-one d) refl

next-month : (y m : ℕ) → m < 12 → next_day (on y m (month_length y m)) ≡ on y (suc m) 1
unfolding next_day
next-month y m h = rw (le-ltb (month_length y m) (month_length y m) (omega arith), lt-ltb m 12 h, add-one m) refl

next-year : (y : ℕ) → next_day (on y 12 (month_length y 12)) ≡ on (suc y) 1 1
unfolding next_day
next-year y = rw (le-ltb (month_length y 12) (month_length y 12) (omega arith), add-one y) refl

module _ (y : ℕ) where
  month-reached : (m : ℕ) → 1 ≤ m → m ≤ 12 → Reached (on y m 1) → (k : ℕ) → suc k ≤ month_length y m → Reached (on y m (suc k))
  month-reached m lo hi r zero h = r
  month-reached m lo hi r (suc k) h =
      one_more (on y m (suc k)) (on y m (suc (suc k))) (record { month_from = lo; month_to = hi; day_from = omega arith; day_to = omega (arith, h) })
      (next-in-month y m (suc k) (omega (arith, h))) (month-reached m lo hi r k (omega (arith, h)))

  day-reached : (m d : ℕ) → 1 ≤ m → m ≤ 12 → Reached (on y m 1) → 1 ≤ d → d ≤ month_length y m → Reached (on y m d)
  day-reached m zero lo hi r a b = absurd (omega (arith, a))
  day-reached m (suc d) lo hi r a b = month-reached m lo hi r d b

  last : (m : ℕ) → 1 ≤ m → m ≤ 12 → IsDate (on y m (month_length y m))
  last m lo hi = record { month_from = lo; month_to = hi; day_from = some-days y m lo hi; day_to = omega arith }

  first-reached : Reached (on y 1 1) → (m : ℕ) → suc m ≤ 12 → Reached (on y (suc m) 1)
  first-reached r zero h = r
  first-reached r (suc m) h =
      one_more (on y (suc m) (month_length y (suc m))) (on y (suc (suc m)) 1) (last (suc m) (omega arith) (omega (arith, h)))
      (next-month y (suc m) (omega (arith, h)))
      (day-reached (suc m) (month_length y (suc m)) (omega arith) (omega (arith, h)) (first-reached r m (omega (arith, h)))
      (some-days y (suc m) (omega arith) (omega (arith, h))) (omega arith))

year-reached : (y : ℕ) → Reached (on y 1 1)
year-reached zero = ap day_after day-by-day.first
year-reached (suc y) =
    one_more (on y 12 (month_length y 12)) (on (suc y) 1 1) (last y 12 (omega arith) (omega arith)) (next-year y)
    (day-reached y 12 (month_length y 12) (omega arith) (omega arith) (first-reached y (year-reached y) 11 (omega arith))
    (some-days y 12 (omega arith) (omega arith)) (omega arith))

any-month : (y m d : ℕ) → 1 ≤ m → m ≤ 12 → 1 ≤ d → d ≤ month_length y m → Reached (on y m d)
any-month y zero d lo hi a b = absurd (omega (arith, lo))
any-month y (suc m) d lo hi a b = day-reached y (suc m) d lo hi (first-reached y (year-reached y) m hi) a b

pub reached : (d : Date) → IsDate d → day_after (day_number d) ≡ d
reached d is = any-month d.year d.month d.day is.month_from is.month_to is.day_from is.day_to
