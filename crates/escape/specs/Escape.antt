-- Text in the public listing: where a backslash stands, and what newline, tab and return become (rule L8). Definitions only.
use Rattle.std.specs.Prelude.{ℕ, List, [], ◌∷◌, ◌++◌, Bool, cond, ◌||◌, eqb}

-- a text spelled by a table that has a list for each byte: their lists, one behind the other
abbrev pub spelled : (ℕ → List ℕ) → List ℕ → List ℕ
spelled table [] = []
spelled table (b ∷ s) = table b ++ spelled table s

-- the bytes that a backslash stands before: `"`, `\`, newline, tab, return
abbrev pub marked : ℕ → Bool
marked b = eqb b 34 || eqb b 92 || eqb b 10 || eqb b 9 || eqb b 13

-- newline, tab and return as `n`, `t` and `r`; every other byte is itself
unfoldable pub letter : ℕ → ℕ
letter b = cond (eqb b 10) 110 (cond (eqb b 9) 116 (cond (eqb b 13) 114 b))

-- what stands for one byte
unfoldable pub listed : ℕ → List ℕ
listed b = cond (marked b) (92 ∷ letter b ∷ []) (letter b ∷ [])

-- rule L8
abbrev pub escaped : List ℕ → List ℕ
escaped s = spelled listed s
