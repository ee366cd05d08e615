-- A timestamp as it is written, by RFC 3339, section 5.6, always with a fraction, of which three digits are left, and a numeric
-- offset (rule W9). Definitions only.
use Rattle.std.specs.Prelude.{ℕ, ◌-◌, ◌/◌, ◌%◌, List, ◌∷◌, ◌++◌, cond, ltb}
use Rattle.timestamp.specs.of_digits.Digits.{last_digits_of}
use Rattle.timestamp.specs.declared.Moment.{Moment}

-- date-fullyear "-" date-month "-" date-mday
unfoldable pub date_text : Moment → List ℕ
date_text m = last_digits_of 4 m.year ++ 0x2D ∷ last_digits_of 2 m.month ++ 0x2D ∷ last_digits_of 2 m.day

-- time-hour ":" time-minute ":" time-second "." 3DIGIT
unfoldable pub clock_text : Moment → List ℕ
clock_text m = last_digits_of 2 m.hour ++ 0x3A ∷ last_digits_of 2 m.minute ++ 0x3A ∷ last_digits_of 2 m.second ++ 0x2E ∷ last_digits_of 3 (m.nanos / 1000000)

-- ("+" / "-") time-hour ":" time-minute, of minutes east of UTC and 1439
abbrev pub sign : ℕ → ℕ
sign offset = cond (ltb offset 1439) 0x2D 0x2B

abbrev pub away : ℕ → ℕ
away offset = cond (ltb offset 1439) (1439 - offset) (offset - 1439)

unfoldable pub offset_text : ℕ → List ℕ
offset_text offset = sign offset ∷ last_digits_of 2 (away offset / 60) ++ 0x3A ∷ last_digits_of 2 (away offset % 60)

-- rule W9
unfoldable pub timestamp_text : Moment → List ℕ
timestamp_text m = date_text m ++ 0x54 ∷ clock_text m ++ offset_text m.offset
