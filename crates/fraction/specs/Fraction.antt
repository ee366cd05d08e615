-- The digits behind a point of a time or timestamp, of which the last of nine counts billionths. Definitions only.
use Rattle.std.specs.Prelude.{ℕ, ◌-◌, ◌*◌, ◌^◌, Bool, cond, ◌&&◌, List, length, leb, Option, Some, None}
use Rattle.digits.specs.Digits.{all_digits, value}

-- at most nine digits, or none
abbrev pub is_fraction : List ℕ → Bool
is_fraction f = all_digits 10 f && leb (length f) 9

abbrev pub billionths : List ℕ → ℕ
billionths f = value 10 f * 10 ^ (9 - length f)

abbrev pub billionths_of : List ℕ → Option ℕ
billionths_of f = cond (is_fraction f) (Some (billionths f)) None
