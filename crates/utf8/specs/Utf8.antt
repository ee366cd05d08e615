-- UTF-8 (RFC 3629, section 4), as a test on a list of bytes that looks at one byte at a time. Definitions only.
use Rattle.std.specs.Prelude.{ℕ, zero, suc, Bool, true, false, cond, ◌&&◌, ◌||◌, List, [], ◌∷◌, ltb, leb, eqb}

-- how many bytes follow the lead byte b. A byte that leads nothing wants one, from an empty range
unfoldable pub need : ℕ → ℕ
need b = cond (ltb b 0x80) 0 (cond (ltb b 0xE0) 1 (cond (ltb b 0xF0) 2 (cond (ltb b 0xF5) 3 1)))

-- the least and the greatest byte that may stand behind the lead byte b
unfoldable pub low : ℕ → ℕ
low b = cond (eqb b 0xE0) 0xA0 (cond (eqb b 0xF0) 0x90 0x80)

unfoldable pub high : ℕ → ℕ
high b = cond (ltb b 0xC2 || ltb 0xF4 b) 0 (cond (eqb b 0xED) 0x9F (cond (eqb b 0xF4) 0x8F 0xBF))

abbrev pub within : ℕ → ℕ → ℕ → Bool
within lo hi b = leb lo b && leb b hi

-- s begins with n bytes, the first from lo to hi, the others from 80 to BF
abbrev pub runs : List ℕ → ℕ → ℕ → ℕ → Bool
runs s zero lo hi = true
runs [] (suc n) lo hi = false
runs (b ∷ s) (suc n) lo hi = within lo hi b && runs s n 0x80 0xBF

-- s is n bytes, the first from lo to hi, the others from 80 to BF, and then characters
abbrev pub ok : List ℕ → ℕ → ℕ → ℕ → Bool
ok [] zero lo hi = true
ok [] (suc n) lo hi = false
ok (b ∷ s) zero lo hi = ok s (need b) (low b) (high b)
ok (b ∷ s) (suc n) lo hi = within lo hi b && ok s n 0x80 0xBF

-- rule X2
abbrev pub utf8 : List ℕ → Bool
utf8 s = ok s 0 0x80 0xBF

-- how many bytes the character has that s begins with, 0 where s begins with none
abbrev pub width : List ℕ → ℕ
width [] = 0
width (b ∷ s) = cond (runs s (need b) (low b) (high b)) (suc (need b)) 0
