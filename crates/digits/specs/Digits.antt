-- Numbers as ASCII digits, read and printed. Definitions only.
use Rattle.std.specs.Prelude.{ℕ, zero, suc, ◌+◌, ◌-◌, ◌*◌, ◌/◌, ◌%◌, List, [], ◌∷◌, ◌++◌, Bool, true, cond, ◌&&◌, length, ltb, leb, eqb, Option, Some, None}

-- the value of a digit in base 10 or 16 (XML 1.0, section 4.1: [0-9], [0-9a-fA-F]), and the base itself of what is no digit
unfoldable pub digit : ℕ → ℕ → ℕ
digit base b =
    cond (leb 0x30 b && leb b 0x39) (b - 0x30)
    (cond (eqb base 16 && (leb 0x61 b && leb b 0x66)) (b - 0x57)
    (cond (eqb base 16 && (leb 0x41 b && leb b 0x46)) (b - 0x37) base))

abbrev pub is_digit : ℕ → ℕ → Bool
is_digit base b = ltb (digit base b) base

abbrev pub all_digits : ℕ → List ℕ → Bool
all_digits base [] = true
all_digits base (b ∷ s) = is_digit base b && all_digits base s

-- the digits of s written behind those of n
abbrev pub value_from : ℕ → ℕ → List ℕ → ℕ
value_from base n [] = n
value_from base n (b ∷ s) = value_from base (n * base + digit base b) s

abbrev pub value : ℕ → List ℕ → ℕ
value base s = value_from base 0 s

-- one digit or more, leading zeros too, that stand for at most `most`
unfoldable pub is_number : ℕ → ℕ → List ℕ → Bool
is_number base most s = ltb 0 (length s) && (all_digits base s && leb (value base s) most)

unfoldable pub number_in : ℕ → ℕ → List ℕ → Option ℕ
number_in base most s = cond (is_number base most s) (Some (value base s)) None

-- the last k decimal digits of n
abbrev pub last_digits_of : ℕ → ℕ → List ℕ
last_digits_of zero n = []
last_digits_of (suc k) n = last_digits_of k (n / 10) ++ ((0x30 + n % 10) ∷ [])

-- how many decimal digits n has, of at most f + 1
abbrev pub places_in : ℕ → ℕ → ℕ
places_in zero n = 1
places_in (suc f) n = cond (ltb n 10) 1 (suc (places_in f (n / 10)))

-- 18446744073709551615, the largest number that is printed, has twenty
unfoldable pub places : ℕ → ℕ
places n = places_in 19 n

-- n in decimal, without leading zeros (rule W9)
unfoldable pub decimal : ℕ → List ℕ
decimal n = last_digits_of (places n) n
