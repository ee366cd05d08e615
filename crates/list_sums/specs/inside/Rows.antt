-- Words, as the records that stand in them. Definitions only.
use Rattle.std.specs.Prelude.{ℕ, ◌/◌, List, Bool, not, ◌&&◌, length, leb, eqb}
use Rattle.list_text.specs.of_tree_record.Record.{kind_of}
use Rattle.list_text.specs.of_tree_report.Layout.{records_from}

-- words begin with a record: records stop at the first whose kind is 0
abbrev pub stands : List ℕ → Bool
stands words = leb 32 (length words) && not (eqb (kind_of words) 0)

unfoldable pub records_in : List ℕ → List (List ℕ)
records_in words = records_from (length words / 32) words
