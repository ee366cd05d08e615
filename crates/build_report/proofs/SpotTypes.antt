-- Where the rows of two reports differ. Definitions only.
use Prim.Native.Nat.{ℕ}
use mathlib.Core.List.{List, ◌∷◌, ◌++◌}
use mathlib.Core.Path.{◌≡◌}
use lib.ListN.{length}
use Rattle.tree_placed.specs.of_tree_report.Report.{Report}
use Rattle.tree_placed.specs.of_tree_report.inside.Cells.{Row, rows_of}

-- the same rows but for the one of number i
pub record Spot (r : Report) (i : ℕ) (row : Row) (r' : Report) (row' : Row) : Type 0 where
  pub front : List Row
  pub back : List Row
  pub here : rows_of r ≡ front ++ (row ∷ back)
  pub there : rows_of r' ≡ front ++ (row' ∷ back)
  pub at : length front ≡ i

-- a row more, of number i
pub record Inserted (r : Report) (i : ℕ) (row : Row) (r' : Report) : Type 0 where
  pub front : List Row
  pub back : List Row
  pub here : rows_of r ≡ front ++ back
  pub there : rows_of r' ≡ front ++ (row ∷ back)
  pub at : length front ≡ i
