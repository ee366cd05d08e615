-- The lines of a text. Definitions only.
use Rattle.std.specs.Prelude.{ℕ, zero, suc, List, take, drop}
use Rattle.table.specs.of_area.Area.{first_at}

-- the text behind its first n lines
abbrev pub past : ℕ → List ℕ → List ℕ
past zero s = s
past (suc n) s = past n (drop (suc (first_at 10 s)) s)

-- the line with n before it, without its newline
unfoldable pub line_in : ℕ → List ℕ → List ℕ
line_in n s = take (first_at 10 (past n s)) (past n s)
