-- The filter of control characters (rule X8). Definitions only.
use Rattle.std.specs.Prelude.{ℕ, List, [], ◌∷◌, Bool, true, cond, not, ◌&&◌, ◌||◌, leb, eqb}

-- rule X8; in UTF-8 each of these is one byte, which stands in no other character
abbrev pub dropped : ℕ → Bool
dropped b = leb b 0x08 || eqb b 0x0B || eqb b 0x0C || (leb 0x0E b && leb b 0x1F)

-- rule X8
abbrev pub filtered : List ℕ → List ℕ
filtered [] = []
filtered (b ∷ s) = cond (dropped b) (filtered s) (b ∷ filtered s)

-- holds nothing that the filter takes out
abbrev pub unfiltered : List ℕ → Bool
unfiltered [] = true
unfiltered (b ∷ s) = not (dropped b) && unfiltered s
