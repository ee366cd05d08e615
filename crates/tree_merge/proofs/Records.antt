-- A record of a layout by the table of its kind. Assumes nothing.
use Prim.Native.Nat.{ℕ}
use mathlib.Core.Bool.{cond, ◌&&◌}
use mathlib.Core.List.{List}
use mathlib.Core.Path.{◌≡◌, refl}
use lib.Dec.{leb}
use Rattle.starts.specs.of_schema.Schema.{table_of}
use Rattle.starts.specs.of_schema.Records.{good}
use Rattle.starts.specs.of_tree_report.Fields.{kind_of, live}
use Rattle.starts.specs.of_tree_report.Layout.{good_record}

pub table-good : (texts r : List ℕ)
    → good_record texts r ≡ cond (live r) (leb (kind_of r) 14 && good (table_of (kind_of r)) texts r) (leb 17 (kind_of r) && leb (kind_of r) 30)
unfolding good_record
table-good texts r = refl
