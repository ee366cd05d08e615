-- A time as it is read (rules V1, V3 and V4). Definitions only.
use Rattle.std.specs.Prelude.{ℕ, suc, ◌+◌, List, Bool, cond, ◌&&◌, length, take, drop, ltb, leb, Option, Some, None, Result}
use Rattle.fraction.specs.of_area.Answer.{Answer, gives, refuses}
use Rattle.fraction.specs.of_area.Area.{first_at}
use Rattle.fraction.specs.of_utf8.Utf8.{utf8}
use Rattle.fraction.specs.of_digits.Digits.{all_digits, value}
use Rattle.fraction.specs.Fraction.{billionths}
use Rattle.fraction.specs.of_digits.Results.{answered}
use Rattle.fraction.specs.of_refusal.declared.Cause.{Cause}
use Rattle.fraction.specs.of_refusal.declared.Cause.TheVariants as cause

-- seconds and nanoseconds, or 2 for what isn't UTF-8, 5 for what is no time
abbrev pub time_answer : Result (ℕ × ℕ) Cause → Answer (ℕ × ℕ)
time_answer = answered

-- how many bytes stand before the first point
abbrev pub point : List ℕ → ℕ
point s = first_at 0x2E s

-- what stands before the first point, and what behind it: nothing where there is no point
abbrev pub whole : List ℕ → List ℕ
whole s = take (point s) s

abbrev pub fraction : List ℕ → List ℕ
fraction s = drop (suc (point s)) s

-- the whole part w and the fraction f make a time (rules V3 and V4)
unfoldable pub make_time : List ℕ → List ℕ → Bool
make_time w f =
    all_digits 10 w && (all_digits 10 f && (leb (length f) 9 && (ltb 0 (length w + length f) && ltb (value 10 w) 8388608)))

-- rule V3
abbrev pub is_time : List ℕ → Bool
is_time s = make_time (whole s) (fraction s)

-- rule V4
abbrev pub seconds_of : List ℕ → ℕ
seconds_of s = value 10 (whole s)

-- rule V4
abbrev pub nanos_of : List ℕ → ℕ
nanos_of s = billionths (fraction s)

-- rule V1
abbrev pub time_of : List ℕ → Answer (ℕ × ℕ)
time_of s = cond (utf8 s) (cond (is_time s) (gives (seconds_of s, nanos_of s)) (refuses cause.BadTime)) (refuses cause.NotUtf8)

-- ---- what the steps of the code find
-- digits, or none, that stand for at most `most`
abbrev pub up_to : ℕ → List ℕ → Option ℕ
up_to most s = cond (all_digits 10 s && leb (value 10 s) most) (Some (value 10 s)) None

-- the time that a whole part and a fraction make
abbrev pub formed_time : List ℕ → List ℕ → Option (ℕ × ℕ)
formed_time w f = cond (make_time w f) (Some (value 10 w, billionths f)) None
