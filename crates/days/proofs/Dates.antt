-- Days are counted day by day. Assumes nothing.
use mathlib.Core.Path.{◌≡◌, refl, sym, ◌∙◌, ap}
use mathlib.Core.Bool.{Bool, true, false, cond}
use Prim.Native.Nat.{ℕ, zero, suc, ◌+◌, ◌-◌, ◌≤◌, ◌/◌, ◌%◌}
use native.Mathlib.Nat.{add-suc, add-zero}
use native.Mathlib.Omega.{arith}
use lib.Dec.{ltb, eqb}
use borrow.Author.Tests.{ltb-true, ltb-false}
use Rattle.calendar.specs.Arithmetic.{arithmetic_length}
use Rattle.calendar.proofs.Arithmetic.{by-arithmetic}
use Rattle.calendar.specs.Calendar.{is_leap, month_length}
use Rattle.days.specs.Days.{year_length, days_before}
use Rattle.days.specs.Dates.{Date, IsDate, next_day, days_before_month, day_number, DayByDay}

plus_one : (n : ℕ) → n + 1 ≡ suc n
plus_one n = add-suc n zero ∙ ap suc (add-zero n)

next-year : (y : ℕ) → days_before (y + 1) ≡ days_before y + year_length y
unfolding days_before
next-year y = ap days_before (plus_one y)

next-month : (y m : ℕ) → days_before_month y (m + 1) ≡ days_before_month y m + month_length y m
unfolding days_before_month
next-month y m = ap (days_before_month y) (plus_one m)

-- twelve months are a year
whole-year : (y : ℕ) → days_before_month y 12 + month_length y 12 ≡ year_length y
unfolding days_before_month month_length
whole-year y = go (is_leap y)
  where
    go : (b : Bool) → 31 + cond b 29 28 + 31 + 30 + 31 + 30 + 31 + 31 + 30 + 31 + 30 + 31 ≡ cond b 366 365
    go true = refl
    go false = refl

-- each month has days
pub some-days : (y m : ℕ) → 1 ≤ m → m ≤ 12 → 1 ≤ month_length y m
unfolding arithmetic_length
some-days y m h l = rw (sym (by-arithmetic y m h l)) (go (eqb m 2) (is_leap y))
  where
    go : (a b : Bool) → 1 ≤ cond a (cond b 29 28) (30 + (m + m / 8) % 2)
    go true true = omega arith
    go true false = omega arith
    go false b = omega arith

first_of : (y : ℕ) → days_before_month y 1 ≡ 0
unfolding days_before_month month_length
first_of y = refl

number : (d : Date) → day_number d ≡ days_before d.year + (days_before_month d.year d.month + (d.day - 1))
unfolding day_number
number d = refl

module _ (d : Date) where
  abbrev len : ℕ
  len = month_length d.year d.month

  same-month : ltb d.day len ≡ true → next_day d ≡ record { year = d.year; month = d.month; day = d.day + 1 }
  unfolding next_day
  same-month e = simp e

  month-after : ltb d.day len ≡ false → ltb d.month 12 ≡ true → next_day d ≡ record { year = d.year; month = d.month + 1; day = 1 }
  unfolding next_day
  month-after e f = simp (e, f)

  year-after : ltb d.day len ≡ false → ltb d.month 12 ≡ false → next_day d ≡ record { year = d.year + 1; month = 1; day = 1 }
  unfolding next_day
  year-after e f = simp (e, f)

  module _ (is : IsDate d) where
    counts : (a b : Bool) → ltb d.day len ≡ a → ltb d.month 12 ≡ b → day_number (next_day d) ≡ day_number d + 1
    counts true b e f =
        let h = number (record { year = d.year; month = d.month; day = d.day + 1 }) in
        ap day_number (same-month e) ∙ omega (arith, h, number d, is.day_from)
    counts false true e f =
        let h = number (record { year = d.year; month = d.month + 1; day = 1 }) in
        ap day_number (month-after e f) ∙ omega (arith, h, number d, is.day_from, is.day_to, ltb-false d.day len e, next-month d.year d.month)
    counts false false e f =
        let h = number (record { year = d.year + 1; month = 1; day = 1 }) in
        let twelve : d.month ≡ 12 = omega (arith, ltb-false d.month 12 f, is.month_to) in
        let last : days_before_month d.year d.month + month_length d.year d.month ≡ year_length d.year = rw twelve (whole-year d.year) in
        ap day_number (year-after e f) ∙ omega (arith, h, number d, is.day_from, is.day_to, ltb-false d.day len e, next-year d.year, first_of (d.year + 1), last)

    stays : (a b : Bool) → ltb d.day len ≡ a → ltb d.month 12 ≡ b → IsDate (next_day d)
    stays true b e f =
        rw (same-month e) (record { month_from = is.month_from; month_to = is.month_to; day_from = omega arith; day_to = omega (arith, ltb-true d.day len e) })
    stays false true e f =
        rw (month-after e f) (record {
          month_from = omega arith;
          month_to = omega (arith, ltb-true d.month 12 f);
          day_from = omega arith;
          day_to = some-days d.year (d.month + 1) (omega arith) (omega (arith, ltb-true d.month 12 f));
        })
    stays false false e f =
        rw (year-after e f) (record { month_from = omega arith; month_to = omega arith; day_from = omega arith; day_to = some-days (d.year + 1) 1 (omega arith) (omega arith) })

pub day-by-day : DayByDay
unfolding day_number days_before_month month_length days_before
day-by-day = record {
  first = refl;
  next = λ d is. counts d is (ltb d.day (month_length d.year d.month)) (ltb d.month 12) refl refl;
  stays = λ d is. stays d is (ltb d.day (month_length d.year d.month)) (ltb d.month 12) refl refl;
}
