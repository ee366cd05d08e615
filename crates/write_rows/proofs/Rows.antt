-- What is written of the records, one record after the other. Assumes nothing.
use Prim.Native.Nat.{ℕ}
use mathlib.Core.Path.{◌≡◌, refl}
use mathlib.Core.List.{List, [], ◌∷◌, ◌++◌}
use mathlib.Core.Bool.{Bool, true, false, ◌||◌}
use lib.Dec.{eqb}
use Rattle.list_sums.specs.of_tree_report.Fields.{kind_of, text_at}
use Rattle.list_sums.specs.of_tree_report.ReportOf.{pair_of, run_of}
use Rattle.write_marks.specs.of_write_escape.Escape.{escaped}
use Rattle.write_marks.specs.of_write_report.Written.{serialize_property, serialize_rerun}
use Rattle.write_marks.specs.of_write_table.Laid.{pair, items_of}
use Rattle.write_walk.specs.of_write_items.inside.Walk.{ends_at, is_between}
use Rattle.write_walk.specs.of_write_items.inside.Status.{family}
use Rattle.write_walk.specs.of_write_items.inside.Rows.{row_items, rows_items}

module _ (text : List ℕ) (flaky : Bool) where
  module _ (r : List ℕ) where
    pub row-property : (eqb (kind_of r) 4 || eqb (kind_of r) 5) ≡ true → items_of (serialize_property (pair_of text r)) ≡ row_items text flaky r
    unfolding row_items
    row-property e = rw e refl

    pub row-extra : (eqb (kind_of r) 4 || eqb (kind_of r) 5) ≡ false → (eqb (kind_of r) 13 || eqb (kind_of r) 14) ≡ true → pair (text_at text r 2) (escaped (text_at text r 4)) ∷ [] ≡ row_items text flaky r
    unfolding row_items
    row-extra e h = rw (e, h) refl

    pub row-run : (eqb (kind_of r) 4 || eqb (kind_of r) 5) ≡ false → (eqb (kind_of r) 13 || eqb (kind_of r) 14) ≡ false → items_of (serialize_rerun (family flaky) (run_of text r)) ≡ row_items text flaky r
    unfolding row_items
    row-run e h = rw (e, h) refl

  module _ (level low high : ℕ) where
    pub rows-over : rows_items text flaky level low high [] ≡ []
    unfolding rows_items
    rows-over = refl

    module _ (r : List ℕ) (rs : List (List ℕ)) where
      pub rows_end : ends_at level (kind_of r) ≡ true → rows_items text flaky level low high (r ∷ rs) ≡ []
      unfolding rows_items
      rows_end e = rw e refl

      pub rows_row : ends_at level (kind_of r) ≡ false → is_between low high (kind_of r) ≡ true
          → rows_items text flaky level low high (r ∷ rs) ≡ row_items text flaky r ++ rows_items text flaky level low high rs
      unfolding rows_items
      rows_row e h = rw (e, h) refl

      pub rows_pass : ends_at level (kind_of r) ≡ false → is_between low high (kind_of r) ≡ false → rows_items text flaky level low high (r ∷ rs) ≡ rows_items text flaky level low high rs
      unfolding rows_items
      rows_pass e h = rw (e, h) refl
