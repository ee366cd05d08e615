-- Where the record stands that a setter is for. Definitions only.
use Prim.Native.Nat.{ℕ, ◌-◌}
use mathlib.Core.Bool.{true}
use mathlib.Core.List.{List, ◌∷◌, ◌++◌}
use mathlib.Core.Option.{some}
use mathlib.Core.Path.{◌≡◌}
use lib.ListN.{length}
use Rattle.tree_placed.specs.of_refusal.Refusal.{nowhere}
use Rattle.tree_placed.specs.of_tree_record.Kinds as kind
use Rattle.tree_placed.specs.of_tree_report.Report.{Pair, TestRerun, TestCase, TestSuite, Report}
use Rattle.tree_placed.specs.of_tree_report.inside.Cells.{Row, pair_row_of, rows_of}
use Rattle.build_draft.specs.declared.TextField.{TextField}
use Rattle.build_draft.specs.Parts.{has_text, has_times}
use Rattle.build_report.specs.Operations.{last_in, has_main, runs_in, Target, report, suite, case, main, run, nothing, kind_of_target}
use Rattle.build_report.specs.Stands.{suite_mark, case_mark, main_mark}

-- two kinds of records that have the same setters
pub record SameFields (k k' : ℕ) : Type 0 where
  pub text : (f : TextField) → has_text k f ≡ has_text k' f
  pub times : has_times k ≡ has_times k'

-- record i is the target's; what has no setter is a property, an extra, or no record
pub data Place (r : Report) (i : ℕ) : Target → Type 0 where
  at-report : i ≡ 0 → Place r i report
  at-suite : {s : TestSuite} → last_in r.suites ≡ some s → i ≡ suite_mark r → Place r i suite
  at-case : {s : TestSuite} {c : TestCase} → last_in r.suites ≡ some s → last_in s.cases ≡ some c → i ≡ case_mark (suite_mark r) s → Place r i case
  at-main : {s : TestSuite} {c : TestCase} → last_in r.suites ≡ some s → last_in s.cases ≡ some c → has_main c.status ≡ true
      → i ≡ main_mark (case_mark (suite_mark r) s) c → Place r i main
  at-run : {s : TestSuite} {c : TestCase} {e : TestRerun} → last_in r.suites ≡ some s → last_in s.cases ≡ some c → last_in (runs_in c.status) ≡ some e
      → i ≡ length (rows_of r) - 1 → Place r i run
  at_pair : (front back : List Row) (κ : ℕ) (p : Pair) → rows_of r ≡ front ++ (pair_row_of κ p ∷ back) → length front ≡ i → SameFields κ kind.suite_property → Place r i nothing
  at_none : i ≡ nowhere → Place r i nothing

-- record i, if there is one, has the target's setters
pub data Reads (r : Report) (i : ℕ) (t : Target) : Type 0 where
  no_row : i ≡ nowhere → t ≡ nothing → Reads r i t
  one-row : (front back : List Row) (row : Row) → rows_of r ≡ front ++ (row ∷ back) → length front ≡ i → SameFields row.kind (kind_of_target t) → Reads r i t
