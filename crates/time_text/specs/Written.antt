-- What a time is written as (rule W10). A float is a value of `lib.Ieee`. Definitions only.
use Rattle.std.specs.Prelude.{ℕ, ◌*◌, ◌/◌, ◌^◌, List, ◌∷◌, ◌++◌, Bool, false, cond, not, ◌&&◌, pos, length, ltb, leb, Float}
use Rattle.std.specs.Float.{nan, inf, fin, binary64}
use Rattle.std.specs.Float.Ieee.{up, down, of_int, add, div}
use Rattle.std.specs.Float.Ieee.Nearest.{closest}
use Rattle.time.specs.of_area.Answer.{Answer, gives, refuses}
use Rattle.time.specs.of_area.Area.{zeros, laid}
use Rattle.time.specs.of_digits.Digits.{decimal, last_digits_of}

-- 1,000,000,000 is 5 ^ 9 * 2 ^ 9
abbrev pub billion : Float
billion = fin false 1953125 (pos 9)

-- rule W10
unfoldable pub float_sum : ℕ → ℕ → Float
float_sum secs nanos = add binary64 (of_int binary64 (pos secs)) (div binary64 (of_int binary64 (pos nanos)) billion)

-- the whole number nearest to 1000 * m * 2 ^ e, and of two equally near the even one (rule W10)
unfoldable pub thousandths_of : Float → ℕ
thousandths_of nan = 0
thousandths_of (inf s) = 0
thousandths_of (fin s m e) = closest (m * up e * 1000) (down e)

-- finite, not negative, and below 2 ^ 53, as every float sum is
unfoldable pub small : Float → Bool
small nan = false
small (inf s) = false
small (fin s m e) = not s && ltb (m * up e) (2 ^ 53 * down e)

-- thousandths as seconds, with three digits after the point
unfoldable pub time_text : ℕ → List ℕ
time_text ms = decimal (ms / 1000) ++ (0x2E ∷ last_digits_of 3 ms)

-- rule W10
abbrev pub written_time : ℕ → ℕ → List ℕ
written_time secs nanos = time_text (thousandths_of (float_sum secs nanos))

-- the answer of putting a text into an area as one number: its length, which is never 0 for a time, or 0 where it does not fit
abbrev pub count : Answer ℕ → ℕ
count (gives n) = n
count (refuses k) = 0

-- the area behind a call that leaves no piece of a text: f at its front, or zeros where f does not fit
abbrev pub whole : List ℕ → List ℕ → List ℕ
whole out f = cond (leb (length f) (length out)) (laid out f) (zeros (length out))
