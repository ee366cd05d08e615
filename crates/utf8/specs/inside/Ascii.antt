-- Texts in which every byte is a character by itself. Definitions only.
use Rattle.std.specs.Prelude.{ℕ, Bool, true, ◌&&◌, List, [], ◌∷◌, ltb}

-- every byte is an ASCII character
abbrev pub ascii : List ℕ → Bool
ascii [] = true
ascii (b ∷ s) = ltb b 0x80 && ascii s
