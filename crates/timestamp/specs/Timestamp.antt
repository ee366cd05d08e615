-- Timestamps by RFC 3339, section 5.6, each rule by its name there. Definitions only.
use Rattle.std.specs.Prelude.{ℕ, suc, ◌+◌, ◌-◌, ◌*◌, Bool, not, ◌&&◌, ◌||◌, cond, List, [], ◌∷◌, length, get_or, drop, leb, ltb, eqb, Result}
use Rattle.names.specs.of_area.Answer.{Answer, gives, refuses}
use Rattle.fraction.specs.of_utf8.Utf8.{utf8}
use Rattle.fraction.specs.of_digits.Digits.{is_digit, is_number, value}
use Rattle.clock.specs.of_fixed.Fields.{part, all}
use Rattle.calendar.specs.Calendar.{month_length}
use Rattle.fraction.specs.Fraction.{billionths}
use Rattle.timestamp.specs.declared.Moment.{Moment}
use Rattle.fraction.specs.of_digits.Results.{answered}
use Rattle.names.specs.of_refusal.declared.Cause.{Cause}
use Rattle.names.specs.of_refusal.declared.Cause.TheVariants as cause
-- "T" time-hour ":" time-minute ":" time-second, the bytes 10 to 18
pub use Rattle.clock.specs.Clock.{hour_of, minute_of, second_of, clock_tests}

-- full-date = date-fullyear "-" date-month "-" date-mday, the bytes 0 to 9
abbrev pub year_of : List ℕ → ℕ
year_of s = value 10 (part 0 4 s)

abbrev pub month_of : List ℕ → ℕ
month_of s = value 10 (part 5 2 s)

abbrev pub day_of : List ℕ → ℕ
day_of s = value 10 (part 8 2 s)

-- dates that there are, in every year from 0000 to 9999 (rule V6)
abbrev pub date_tests : List ℕ → List Bool
date_tests s =
    is_number 10 9999 (part 0 4 s) ∷ eqb (get_or s 4 0) 0x2D
    ∷ is_number 10 12 (part 5 2 s) ∷ eqb (get_or s 7 0) 0x2D
    ∷ is_number 10 31 (part 8 2 s)
    ∷ leb 1 (month_of s) ∷ leb 1 (day_of s) ∷ leb (day_of s) (month_length (year_of s) (month_of s))
    ∷ []

-- how many digits s begins with
abbrev pub digit_run : List ℕ → ℕ
digit_run [] = 0
digit_run (b ∷ s) = cond (is_digit 10 b) (suc (digit_run s)) 0

-- time-secfrac = "." 1*DIGIT, which t may begin with; nine digits at most (rule V7)
abbrev pub has_point : List ℕ → Bool
has_point t = eqb (get_or t 0 0) 0x2E

unfoldable pub places : List ℕ → ℕ
places t = cond (has_point t) (digit_run (drop 1 t)) 0

-- rule V7
abbrev pub fraction_tests : List ℕ → List Bool
fraction_tests t = (not (has_point t) || leb 1 (places t)) ∷ leb (places t) 9 ∷ []

abbrev pub nanos_of : List ℕ → ℕ
nanos_of t = billionths (part 1 (places t) t)

abbrev pub fraction_width : List ℕ → ℕ
fraction_width t = cond (has_point t) (places t + 1) 0

-- time-offset = "Z" / time-numoffset, time-numoffset = ("+" / "-") time-hour ":" time-minute, which z is; `z` is taken (rule V5)
unfoldable pub is_utc : List ℕ → Bool
is_utc z = eqb (length z) 1 && (eqb (get_or z 0 0) 0x5A || eqb (get_or z 0 0) 0x7A)

-- rule V8
abbrev pub offset_tests : List ℕ → List Bool
offset_tests z =
    eqb (length z) 6 ∷ (eqb (get_or z 0 0) 0x2B || eqb (get_or z 0 0) 0x2D)
    ∷ is_number 10 23 (part 1 2 z) ∷ eqb (get_or z 3 0) 0x3A ∷ is_number 10 59 (part 4 2 z) ∷ []

-- minutes
abbrev pub away_of : List ℕ → ℕ
away_of z = value 10 (part 1 2 z) * 60 + value 10 (part 4 2 z)

-- minutes east of UTC, and 1439; the sign of 00:00 doesn't count (rule V8)
abbrev pub offset_of : List ℕ → ℕ
offset_of z = cond (is_utc z) 1439 (cond (eqb (get_or z 0 0) 0x2B) (1439 + away_of z) (1439 - away_of z))

-- date-time = full-date "T" full-time: what stands behind the seconds, and behind their fraction
abbrev pub tail : List ℕ → List ℕ
tail s = drop 19 s

abbrev pub zone : List ℕ → List ℕ
zone s = drop (fraction_width (tail s)) (tail s)

-- rule V5
abbrev pub timestamp_tests : List ℕ → List Bool
timestamp_tests s =
    leb 20 (length s) ∷ all (date_tests s) ∷ all (clock_tests s) ∷ all (fraction_tests (tail s))
    ∷ (is_utc (zone s) || all (offset_tests (zone s))) ∷ []

-- rule V5
unfoldable pub is_timestamp : List ℕ → Bool
is_timestamp s = all (timestamp_tests s)

abbrev pub moment_of : List ℕ → Moment
moment_of s = record {
  year = year_of s;
  month = month_of s;
  day = day_of s;
  hour = hour_of s;
  minute = minute_of s;
  second = second_of s;
  nanos = nanos_of (tail s);
  offset = offset_of (zone s);
}

abbrev pub timestamp_answer : Result Moment Cause → Answer Moment
timestamp_answer = answered

-- rule V1
unfoldable pub timestamp_of : List ℕ → Answer Moment
timestamp_of s = cond (utf8 s) (cond (is_timestamp s) (gives (moment_of s)) (refuses cause.BadTimestamp)) (refuses cause.NotUtf8)

-- the ranges of rules V6 to V8
abbrev pub range_tests : Moment → List Bool
range_tests m =
    leb m.year 9999 ∷ leb 1 m.month ∷ leb m.month 12 ∷ leb 1 m.day ∷ leb m.day (month_length m.year m.month)
    ∷ leb m.hour 23 ∷ leb m.minute 59 ∷ leb m.second 59 ∷ ltb m.nanos 1000000000 ∷ leb m.offset 2878 ∷ []

-- rule B10
unfoldable pub in_range : Moment → Bool
in_range m = all (range_tests m)
