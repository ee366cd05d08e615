-- Texts that are written as they are. Definitions only.
use Rattle.std.specs.Prelude.{ℕ, List, [], ◌∷◌, Bool, true, not, ◌&&◌, ◌||◌, eqb}

-- one of the five
abbrev pub is_special : ℕ → Bool
is_special b = eqb b 0x26 || (eqb b 0x3C || (eqb b 0x3E || (eqb b 0x27 || eqb b 0x22)))

abbrev pub plain : List ℕ → Bool
plain [] = true
plain (b ∷ s) = not (is_special b) && plain s
