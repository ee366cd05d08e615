-- The line and the column that stand behind some bytes, counted from 1 (rule N13). Definitions only.
use Rattle.std.specs.Prelude.{ℕ, ◌+◌, List, [], ◌∷◌, Bool, cond, ◌||◌, ltb, eqb}

abbrev pub newlines : List ℕ → ℕ
newlines [] = 0
newlines (b ∷ s) = cond (eqb b 10) 1 0 + newlines s

-- rule N13
unfoldable pub line_behind : List ℕ → ℕ
line_behind s = 1 + newlines s

-- a byte that begins a character: 80 to BF are further bytes of one
abbrev pub begins : ℕ → Bool
begins b = ltb b 0x80 || ltb 0xBF b

-- behind a byte in column n; a newline ends the line
abbrev pub column_past : ℕ → ℕ → ℕ
column_past n b = cond (eqb b 10) 1 (cond (begins b) (n + 1) n)

abbrev pub column_from : ℕ → List ℕ → ℕ
column_from n [] = n
column_from n (b ∷ s) = column_from (column_past n b) s

-- rule N13
unfoldable pub column_behind : List ℕ → ℕ
column_behind s = column_from 1 s
