-- The moment of a timestamp is in range. Assumes nothing.
use Prim.Native.Nat.{ℕ, ◌+◌, ◌-◌, ◌≤◌, ◌<◌}
use mathlib.Core.Path.{◌≡◌, refl, ap, ◌∙◌}
use mathlib.Core.Bool.{Bool, true, false, cond, ◌||◌}
use mathlib.Core.List.{List}
use native.Mathlib.Omega.{arith}
use borrow.Author.Tests.{le-leb, leb-true, lt-ltb, ltb-true, eqb-true}
use lib.Dec.{eqb, lit<}
use lib.ListN.{get_or}
use Rattle.names.specs.of_area.Answer.{gives}
use Rattle.fraction.specs.of_digits.Digits.{value, is_number}
use Rattle.fraction.proofs.of_digits.Numbers.{number-parts}
use Rattle.clock.specs.of_fixed.Fields.{part, all}
use Rattle.clock.proofs.of_fixed.Tests.{passes}
use Rattle.calendar.specs.Calendar.{month_length}
use Rattle.timestamp.specs.Timestamp.{date_tests, clock_tests, has_point, places, fraction_tests, nanos_of, is_utc, offset_tests, away_of}
use Rattle.timestamp.specs.Timestamp.{offset_of, tail, zone, timestamp_tests, is_timestamp, moment_of, timestamp_of, range_tests, in_range}
use Rattle.timestamp.specs.declared.Moment.{Moment}
use Rattle.fraction.proofs.Fractions.{nine-below}
use Rattle.timestamp.proofs.Fractions.{run-fraction}
use Rattle.timestamp.proofs.Answers.{timestamp-read}

pub record InRange (m : Moment) : Type 0 where
  pub year-most : m.year ≤ 9999
  pub month-least : 1 ≤ m.month
  pub month-most : m.month ≤ 12
  pub day-least : 1 ≤ m.day
  pub day-most : m.day ≤ month_length m.year m.month
  pub hour-most : m.hour ≤ 23
  pub minute-most : m.minute ≤ 59
  pub second-most : m.second ≤ 59
  pub nanos-below : m.nanos < 1000000000
  pub offset-most : m.offset ≤ 2878

-- the bounds of a moment in range, one by one
pub range-facts : (m : Moment) → in_range m ≡ true → InRange m
unfolding in_range
range-facts m e = record {
  year-most = leb-true m.year 9999 (passes (range_tests m) 0 e);
  month-least = leb-true 1 m.month (passes (range_tests m) 1 e);
  month-most = leb-true m.month 12 (passes (range_tests m) 2 e);
  day-least = leb-true 1 m.day (passes (range_tests m) 3 e);
  day-most = leb-true m.day (month_length m.year m.month) (passes (range_tests m) 4 e);
  hour-most = leb-true m.hour 23 (passes (range_tests m) 5 e);
  minute-most = leb-true m.minute 59 (passes (range_tests m) 6 e);
  second-most = leb-true m.second 59 (passes (range_tests m) 7 e);
  nanos-below = ltb-true m.nanos 1000000000 (passes (range_tests m) 8 e);
  offset-most = leb-true m.offset 2878 (passes (range_tests m) 9 e);
}

pub range-whole : (m : Moment) → InRange m → in_range m ≡ true
unfolding in_range
range-whole m r =
    rw (
      le-leb m.year 9999 r.year-most,
      le-leb 1 m.month r.month-least,
      le-leb m.month 12 r.month-most,
      le-leb 1 m.day r.day-least,
      le-leb m.day (month_length m.year m.month) r.day-most,
      le-leb m.hour 23 r.hour-most,
      le-leb m.minute 59 r.minute-most,
      le-leb m.second 59 r.second-most,
      lt-ltb m.nanos 1000000000 r.nanos-below,
      le-leb m.offset 2878 r.offset-most,
    )

most : (n : ℕ) (s : List ℕ) → is_number 10 n s ≡ true → value 10 s ≤ n
most n s e = (number-parts 10 n s e).2

nanos-small : (t : List ℕ) → all (fraction_tests t) ≡ true → nanos_of t < 1000000000
unfolding places
nanos-small t e = go (has_point t) refl
  where
    go : (b : Bool) → has_point t ≡ b → nanos_of t < 1000000000
    go true h =
        let p = eqb-true (get_or t 0 0) 0x2E h in
        nine-below (part 1 (places t) t) (run-fraction t p ∙ passes (fraction_tests t) 1 e)
    go false h = rw h (lit< tt)

offset-small : (z : List ℕ) → (is_utc z || all (offset_tests z)) ≡ true → offset_of z ≤ 2878
offset-small z e = go (is_utc z) e
  where
    go : (b : Bool) → (b || all (offset_tests z)) ≡ true → cond b 1439 (cond (eqb (get_or z 0 0) 0x2B) (1439 + away_of z) (1439 - away_of z)) ≤ 2878
    go true e = omega arith
    go false e = sign (eqb (get_or z 0 0) 0x2B)
      where
        sign : (b : Bool) → cond b (1439 + away_of z) (1439 - away_of z) ≤ 2878
        sign true = omega (arith, most 23 (part 1 2 z) (passes (offset_tests z) 2 e), most 59 (part 4 2 z) (passes (offset_tests z) 4 e))
        sign false = omega arith

-- a moment that was read from a timestamp is in range
pub timestamp-range : (s : List ℕ) (m : Moment) → timestamp_of s ≡ gives m → in_range m ≡ true
unfolding is_timestamp
timestamp-range s m e = let p = timestamp-read s m e in ap in_range p.1 ∙ range-whole (moment_of s) (ranges p.0)
  where
    ranges : is_timestamp s ≡ true → InRange (moment_of s)
    ranges e =
        let d : all (date_tests s) ≡ true = passes (timestamp_tests s) 1 e in
        let c : all (clock_tests s) ≡ true = passes (timestamp_tests s) 2 e in
        record {
          year-most = most 9999 (part 0 4 s) (passes (date_tests s) 0 d);
          month-least = leb-true 1 (value 10 (part 5 2 s)) (passes (date_tests s) 5 d);
          month-most = most 12 (part 5 2 s) (passes (date_tests s) 2 d);
          day-least = leb-true 1 (value 10 (part 8 2 s)) (passes (date_tests s) 6 d);
          day-most = leb-true (value 10 (part 8 2 s)) (month_length (value 10 (part 0 4 s)) (value 10 (part 5 2 s))) (passes (date_tests s) 7 d);
          hour-most = most 23 (part 11 2 s) (passes (clock_tests s) 1 c);
          minute-most = most 59 (part 14 2 s) (passes (clock_tests s) 3 c);
          second-most = most 59 (part 17 2 s) (passes (clock_tests s) 5 c);
          nanos-below = nanos-small (tail s) (passes (timestamp_tests s) 3 e);
          offset-most = offset-small (zone s) (passes (timestamp_tests s) 4 e);
        }
