-- XML 1.0 (fifth edition): classes of characters, by code points, with the number of their production. Definitions only.
use Rattle.std.specs.Prelude.{ℕ, ◌+◌, List, [], ◌∷◌, Bool, true, false, cond, ◌&&◌, ◌||◌, leb, eqb}

pub data Range : Type 0 where
  to : ℕ → ℕ → Range

-- [a, z] and [low, high] have a number in common
unfoldable pub crosses : ℕ → ℕ → ℕ → ℕ → Bool
crosses a z low high = leb a z && leb low high && leb a high && leb low z

-- some code point from low to high is in the class
abbrev pub meets : List Range → ℕ → ℕ → Bool
meets [] low high = false
meets (to a z ∷ rs) low high = crosses a z low high || meets rs low high

-- c is in the class
abbrev pub is_in : List Range → ℕ → Bool
is_in cls c = meets cls c c

-- [2] Char
abbrev pub any_char : List Range
any_char = to 0x9 0xA ∷ to 0xD 0xD ∷ to 0x20 0xD7FF ∷ to 0xE000 0xFFFD ∷ to 0x10000 0x10FFFF ∷ []

-- [4] NameStartChar
abbrev pub name_start : List Range
name_start =
    to 0x3A 0x3A ∷ to 0x41 0x5A ∷ to 0x5F 0x5F ∷ to 0x61 0x7A ∷ to 0xC0 0xD6 ∷ to 0xD8 0xF6 ∷ to 0xF8 0x2FF ∷ to 0x370 0x37D ∷ to 0x37F 0x1FFF ∷ to 0x200C 0x200D ∷
    to 0x2070 0x218F ∷ to 0x2C00 0x2FEF ∷ to 0x3001 0xD7FF ∷ to 0xF900 0xFDCF ∷ to 0xFDF0 0xFFFD ∷ to 0x10000 0xEFFFF ∷ []

-- [4a] NameChar
abbrev pub name_char : List Range
name_char = to 0x2D 0x2E ∷ to 0x30 0x39 ∷ to 0xB7 0xB7 ∷ to 0x300 0x36F ∷ to 0x203F 0x2040 ∷ name_start

-- a character of [3] S
abbrev pub is_space : ℕ → Bool
is_space c = eqb c 0x20 || (eqb c 0x9 || (eqb c 0xD || eqb c 0xA))

-- [0-9] and [0-9a-fA-F] of [66] CharRef
abbrev pub is_digit : ℕ → Bool
is_digit c = leb 0x30 c && leb c 0x39

abbrev pub is_hex : ℕ → Bool
is_hex c = is_digit c || ((leb 0x61 c && leb c 0x66) || (leb 0x41 c && leb c 0x46))

-- letter case left out: a letter from `A` to `Z` as the small one
unfoldable pub lower : ℕ → ℕ
lower c = cond (leb 0x41 c && leb c 0x5A) (c + 0x20) c

-- the two quotes that a value may stand in
pub data Quote : Type 0 where
  single double : Quote

abbrev pub mark : Quote → ℕ
mark single = 0x27
mark double = 0x22

-- s begins with x
abbrev pub begins : List ℕ → List ℕ → Bool
begins [] s = true
begins (a ∷ x) [] = false
begins (a ∷ x) (b ∷ s) = eqb a b && begins x s
