-- What is shown of suites, from their records and those behind them. Definitions only.
use Rattle.std.specs.Prelude.{ℕ, List, map}
use Rattle.list_case.specs.of_tree_report.Fields.{is_suite, is_case}
use Rattle.list_case.specs.of_tree_report.ReportOf.{until, branches, case_of, suite_of}
use Rattle.list_case.specs.of_list_text.Listing.{public_case, public_suite, case_texts, suite_text, suite_texts}

module _ (text : List ℕ) where
  -- the cases of a suite, from the records behind it: those before the next suite
  unfoldable pub cases_shown : List (List ℕ) → List ℕ
  cases_shown rs = case_texts (map public_case (map (case_of text) (branches is_case (until is_suite rs))))

  unfoldable pub suite_shown : List ℕ → List (List ℕ) → List ℕ
  suite_shown r rs = suite_text (public_suite (suite_of text (record { head = r; below = until is_suite rs })))

  unfoldable pub suites_shown : List (List ℕ) → List ℕ
  suites_shown rs = suite_texts (map public_suite (map (suite_of text) (branches is_suite rs)))
