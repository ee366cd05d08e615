-- A text without the Unicode White_Space at both its ends. Definitions only.
use Rattle.std.specs.Prelude.{ℕ, Bool, true, false, cond, ◌&&◌, ◌||◌, List, [], ◌∷◌, leb, eqb}
use Rattle.utf8_chars.specs.of_utf8.Characters.{chars, joined, scalar}
use Rattle.utf8_chars.specs.of_utf8.Utf8.{utf8}

-- White_Space of Unicode's PropList.txt (rule X10)
abbrev pub white : ℕ → Bool
white c =
    (leb 0x09 c && leb c 0x0D) || eqb c 0x20 || eqb c 0x85 || eqb c 0xA0 || eqb c 0x1680
    || (leb 0x2000 c && leb c 0x200A) || eqb c 0x2028 || eqb c 0x2029 || eqb c 0x202F || eqb c 0x205F || eqb c 0x3000

-- a character that is white; a byte that begins no character never is
abbrev pub blank : List ℕ → Bool
blank c = utf8 c && white (scalar c)

abbrev pub no_start_of : List (List ℕ) → List (List ℕ)
no_start_of [] = []
no_start_of (c ∷ cs) = cond (blank c) (no_start_of cs) (c ∷ cs)

abbrev pub empty : List (List ℕ) → Bool
empty [] = true
empty (c ∷ cs) = false

abbrev pub no_end_of : List (List ℕ) → List (List ℕ)
no_end_of [] = []
no_end_of (c ∷ cs) = cond (blank c && empty (no_end_of cs)) [] (c ∷ no_end_of cs)

-- at both ends (rule X10)
abbrev pub trimmed : List ℕ → List ℕ
trimmed s = joined (no_end_of (no_start_of (chars s)))
