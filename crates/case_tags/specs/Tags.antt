-- The `testcase` tags among events, wherever they stand. Definitions only.
use Rattle.std.specs.Prelude.{ℕ, ◌+◌, List, [], ◌∷◌, cond, eqb}
use Rattle.table_events.specs.of_names.Tags.{tag_of, testcase}
use Rattle.table_events.specs.of_table.Event.{Event, Tag, Start, Empty, End, Piece, Eof, Fault}

-- 1 for a Start or Empty of that name (rules R2 and R21), 0 for any other event
unfoldable pub case_tag : Event → ℕ
case_tag (Tag Start name j xs) = cond (eqb (tag_of name) testcase) 1 0
case_tag (Tag Empty name j xs) = cond (eqb (tag_of name) testcase) 1 0
case_tag (Tag End name j xs) = 0
case_tag (Piece k bytes) = 0
case_tag Eof = 0
case_tag Fault = 0

unfoldable pub case_tags : List Event → ℕ
case_tags [] = 0
case_tags (e ∷ es) = case_tag e + case_tags es
