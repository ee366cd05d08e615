-- The kinds of pieces of text. Definitions only.
use Rattle.std.specs.Prelude.{ℕ, Bool, ◌&&◌, ◌||◌, leb, eqb}

-- 3 Text, 4 CData, 5 Ref, 6 Other and 9 Indent (rule T3)
abbrev pub is_piece : ℕ → Bool
is_piece kind = (leb 3 kind && leb kind 6) || eqb kind 9
