-- Texts that are listed as they are. Definitions only.
use Rattle.std.specs.Prelude.{ℕ, List, [], ◌∷◌, Bool, true, not, ◌&&◌}
use Rattle.escape.specs.Escape.{marked}

abbrev pub plain : List ℕ → Bool
plain [] = true
plain (b ∷ s) = not (marked b) && plain s
