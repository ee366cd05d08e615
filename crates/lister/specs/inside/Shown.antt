-- What is shown of the report, from its record and those behind it. Definitions only.
use Rattle.std.specs.Prelude.{ℕ, List, ◌++◌}
use Rattle.tree_layout.specs.of_tree_report.Fields.{live, first, counts}
use Rattle.tree_layout.specs.of_tree_report.ReportOf.{only, report_from}
use Rattle.list_suites.specs.of_list_text.Listing.{header, ending, rendered_or}
use Rattle.list_suites.specs.inside.Shown.{suites_shown}

module _ (text : List ℕ) where
  -- a report, with the records behind it
  unfoldable pub whole_shown : List ℕ → List (List ℕ) → List ℕ
  whole_shown r rs = header (first text r) (counts r) ++ (suites_shown text rs ++ ending)

  -- the report of a list of records: the first live one
  unfoldable pub report_shown : List (List ℕ) → List ℕ
  report_shown rs = rendered_or (report_from text (only live rs))
