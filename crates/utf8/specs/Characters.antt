-- The characters of a list of bytes, their code points (RFC 3629, section 3), and the places between characters. Definitions only.
use Rattle.std.specs.Prelude.{ℕ, zero, suc, ◌+◌, ◌*◌, ◌/◌, ◌%◌, Bool, cond, not, ◌&&◌, ◌||◌, List, [], ◌∷◌, ◌++◌, ltb, leb, eqb, length, get_or, take}
use Rattle.utf8.specs.Utf8.{need, low, high, within, runs, width}

-- how many bytes of s belong to the character that b begins before them. A byte that begins no character stands alone
abbrev pub following : ℕ → List ℕ → ℕ
following b s = cond (runs s (need b) (low b) (high b)) (need b) 0

-- the width of the character that s begins with, 1 where s begins with none, 0 where s is empty
abbrev pub step : List ℕ → ℕ
step [] = 0
step (b ∷ s) = suc (following b s)

-- the characters of s without its first k bytes
abbrev pub split : List ℕ → ℕ → List (List ℕ)
split [] k = []
split (b ∷ s) zero = (b ∷ take (following b s) s) ∷ split s (following b s)
split (b ∷ s) (suc k) = split s k

abbrev pub chars : List ℕ → List (List ℕ)
chars s = split s 0

abbrev pub joined : List (List ℕ) → List ℕ
joined [] = []
joined (c ∷ cs) = c ++ joined cs

-- the code point of a character
abbrev pub scalar : List ℕ → ℕ
scalar [] = 0
scalar (a ∷ []) = a
scalar (a ∷ b ∷ []) = a % 32 * 64 + b % 64
scalar (a ∷ b ∷ c ∷ []) = a % 16 * 4096 + b % 64 * 64 + c % 64
scalar (a ∷ b ∷ c ∷ d ∷ r) = a % 8 * 262144 + b % 64 * 4096 + c % 64 * 64 + d % 64

-- the code point of the character that s begins with, 0 where s begins with none
abbrev pub first_scalar : List ℕ → ℕ
first_scalar s = scalar (take (width s) s)

-- U+0000 to U+10FFFF without the surrogates, which UTF-8 prohibits (section 3)
abbrev pub is_scalar : ℕ → Bool
is_scalar c = leb c 0xD7FF || (leb 0xE000 c && leb c 0x10FFFF)

-- the character of a code point; no bytes for what is none
unfoldable pub encode : ℕ → List ℕ
encode c =
    cond (is_scalar c)
    (cond (ltb c 0x80) (c ∷ [])
    (cond (ltb c 0x800) ((192 + c / 64) ∷ (128 + c % 64) ∷ [])
    (cond (ltb c 0x10000) ((224 + c / 4096) ∷ (128 + c / 64 % 64) ∷ (128 + c % 64) ∷ [])
    ((240 + c / 262144) ∷ (128 + c / 4096 % 64) ∷ (128 + c / 64 % 64) ∷ (128 + c % 64) ∷ []))))
    []

-- i is the end of s, or the place of a byte that is no UTF8-tail
abbrev pub boundary : List ℕ → ℕ → Bool
boundary s i = eqb i (length s) || (ltb i (length s) && not (within 0x80 0xBF (get_or s i 0)))
