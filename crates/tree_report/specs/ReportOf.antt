-- The report that a layout holds. Definitions only.
use Rattle.std.specs.Prelude.{ℕ, List, [], ◌∷◌, map, Bool, cond, leb, eqb}
use Rattle.std.proofs.Math.Option.{Option, none, some}
use Rattle.tree_status.specs.of_tree_record.Bits as bit
use Rattle.tree_status.specs.of_tree_record.Kinds as kind
use Rattle.tree_report.specs.Report.{Pair, failure, error, FlakyOrRerun, flaky, rerun, TestRerun, Reason, TestCaseStatus, success, non_success, skipped, TestCase, TestSuite, Report}
use Rattle.tree_report.specs.Fields.{kind_of, live, is_suite, is_case, is_suite_property, is_case_property, is_main, is_run, is_suite_extra, is_case_extra, has_bit}
use Rattle.schema.specs.Schema.{report, suite, case, run, property}
use Rattle.schema.specs.Schema as table
use Rattle.schema.specs.Texts.{fields_of}
use Rattle.schema.specs.Elements as named
use Rattle.tree_report.specs.Layout.{records_of, used_text}

-- the records that pass a test, in order
abbrev pub only : (List ℕ → Bool) → List (List ℕ) → List (List ℕ)
only p [] = []
only p (r ∷ rs) = cond (p r) (r ∷ only p rs) (only p rs)

-- the records up to the next that passes a test
abbrev pub until : (List ℕ → Bool) → List (List ℕ) → List (List ℕ)
until p [] = []
until p (r ∷ rs) = cond (p r) [] (r ∷ until p rs)

-- an element's record, and what stands behind it up to the next of its kind: a live record belongs to the nearest live
-- record of its parent's kind before it
pub record Branch : Type 0 where
  pub head : List ℕ
  pub below : List (List ℕ)

abbrev pub branches : (List ℕ → Bool) → List (List ℕ) → List Branch
branches p [] = []
branches p (r ∷ rs) = cond (p r) (record { head = r; below = until p rs } ∷ branches p rs) (branches p rs)

module _ (text : List ℕ) where
  abbrev pub pair_of : List ℕ → Pair
  pair_of r = named.pair_of (fields_of property text r)

  abbrev pub pairs_of_it : (List ℕ → Bool) → List (List ℕ) → List Pair
  pairs_of_it p rs = map pair_of (only p rs)

  -- failure, error and skipped have the same texts
  abbrev pub reason_of : List ℕ → Reason
  reason_of r = named.skipped_of (fields_of table.skipped text r)

  abbrev pub run_of : List ℕ → TestRerun
  run_of r = named.run_of (cond (eqb (kind_of r) kind.flaky_failure) failure (cond (eqb (kind_of r) kind.rerun_failure) failure error)) (fields_of run text r)

  -- the kind of a failure's or error's runs: by the first of them, and without any by the flaky bit (rule S11)
  abbrev pub kind_of_runs : List ℕ → List (List ℕ) → FlakyOrRerun
  kind_of_runs main [] = cond (has_bit bit.flaky main) flaky rerun
  kind_of_runs main (r ∷ rs) = cond (leb (kind_of r) kind.flaky_error) flaky rerun

  -- no main is success (rule S10); a failure or error has the runs (rule S11)
  abbrev pub status_of : List (List ℕ) → List (List ℕ) → TestCaseStatus
  status_of [] runs = success (map run_of runs)
  status_of (m ∷ ms) runs =
      cond (eqb (kind_of m) kind.skipped) (skipped (reason_of m))
      (non_success (cond (eqb (kind_of m) kind.failure) failure error) (reason_of m) (kind_of_runs m runs) (map run_of runs))

  abbrev pub case_of : Branch → TestCase
  case_of b =
      named.case_of (fields_of case text b.head) (status_of (only is_main b.below) (only is_run b.below))
      (pairs_of_it is_case_extra b.below) (pairs_of_it is_case_property b.below)

  abbrev pub suite_of : Branch → TestSuite
  suite_of b =
      named.suite_of (fields_of suite text b.head) (map case_of (branches is_case b.below))
      (pairs_of_it is_suite_property b.below) (pairs_of_it is_suite_extra b.below)

  -- the one live report record comes first
  abbrev pub report_from : List (List ℕ) → Option Report
  report_from [] = none
  report_from (r ∷ rs) = some (named.report_of (fields_of report text r) (map suite_of (branches is_suite rs)))

-- the report of two areas; there is one wherever they are a layout (rule M8)
unfoldable pub report_of : List ℕ → List ℕ → Option Report
report_of words text = report_from (used_text text) (only live (records_of words))
