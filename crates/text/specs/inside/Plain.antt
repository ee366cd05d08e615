-- Texts that putting them leaves as they are, as the code tests it. Definitions only.
use Rattle.std.specs.Prelude.{ℕ, suc, List, [], ◌∷◌, Bool, true, cond, not, ◌&&◌, ◌||◌, ltb, eqb}
use Rattle.text_filter.specs.Filter.{dropped}

-- an ampersand, a control character, or no ASCII
abbrev pub odd : ℕ → Bool
odd b = eqb b 0x26 || (ltb b 0x20 || ltb 0x7F b)

-- such a text is a value that stands for itself, whether or not it is filtered
abbrev pub plain : List ℕ → Bool
plain [] = true
plain (b ∷ s) = not (odd b) && plain s

-- a byte that isn't put as it is: it begins a reference, or is dropped
abbrev pub stops : Bool → ℕ → Bool
stops clean b = eqb b 0x26 || (clean && dropped b)

-- how many bytes at the front of a value are put as they are
abbrev pub run : Bool → List ℕ → ℕ
run clean [] = 0
run clean (b ∷ s) = cond (stops clean b) 0 (suc (run clean s))
