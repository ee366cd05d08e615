-- Records copied one behind the other, by their presence bits. Definitions only.
use Rattle.std.specs.Prelude.{ℕ, ◌+◌, ◌*◌, ◌≤◌, List, [], ◌∷◌, ◌++◌, length}
use Rattle.merge_rows.specs.of_area.Limits.{most_bytes}
use Rattle.merge_rows.specs.of_list_sums.inside.Rows.{records_in}
use Rattle.merge_rows.specs.of_tree_report.ReportOf.{only}
use Rattle.merge_rows.specs.of_tree_merge.Answer.{is_below}
use Rattle.merge_rows.specs.inside.Slots.{row_texts, row_moved_of, sizes_of}
use Rattle.merge_records.specs.declared.Mark.{Mark}

-- the live records of words, without the report
unfoldable pub below_in : List ℕ → List (List ℕ)
below_in words = only is_below (records_in words)

unfoldable pub sizes_in : List (List ℕ) → ℕ
sizes_in [] = 0
sizes_in (r ∷ rs) = sizes_of r + sizes_in rs

unfoldable pub texts_for : List ℕ → List (List ℕ) → List ℕ
texts_for texts [] = []
texts_for texts (r ∷ rs) = row_texts texts r ++ texts_for texts rs

-- their words
unfoldable pub records_for : List ℕ → ℕ → List (List ℕ) → List ℕ
records_for texts fill [] = []
records_for texts fill (r ∷ rs) = row_moved_of texts fill r ++ records_for texts (fill + length (row_texts texts r)) rs

-- there is room for them behind a mark
pub record Room (texts : List ℕ) (rs : List (List ℕ)) (from : Mark) (out bytes : List ℕ) : Type 0 where
  pub words : from.word + length rs * 32 ≤ length out
  pub fits : from.fill + length (texts_for texts rs) ≤ length bytes
  pub most : length bytes ≤ most_bytes
