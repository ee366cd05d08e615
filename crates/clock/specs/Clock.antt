-- The clock of a timestamp by RFC 3339, section 5.6. Definitions only.
use Rattle.std.specs.Prelude.{ℕ, Bool, ◌||◌, List, [], ◌∷◌, get_or, eqb}
use Rattle.fixed.specs.of_digits.Digits.{is_number, value}
use Rattle.fixed.specs.Fields.{part}

-- "T" time-hour ":" time-minute ":" time-second, the bytes 10 to 18
abbrev pub hour_of : List ℕ → ℕ
hour_of s = value 10 (part 11 2 s)

abbrev pub minute_of : List ℕ → ℕ
minute_of s = value 10 (part 14 2 s)

abbrev pub second_of : List ℕ → ℕ
second_of s = value 10 (part 17 2 s)

-- `t` is taken (rule V5), second 60 isn't (rule V7)
abbrev pub clock_tests : List ℕ → List Bool
clock_tests s =
    (eqb (get_or s 10 0) 0x54 || eqb (get_or s 10 0) 0x74)
    ∷ is_number 10 23 (part 11 2 s) ∷ eqb (get_or s 13 0) 0x3A
    ∷ is_number 10 59 (part 14 2 s) ∷ eqb (get_or s 16 0) 0x3A
    ∷ is_number 10 59 (part 17 2 s)
    ∷ []
