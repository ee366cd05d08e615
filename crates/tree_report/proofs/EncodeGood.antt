-- A record that is good by the table of its row is good in a layout. Assumes nothing.
use Prim.Native.Nat.{ℕ}
use mathlib.Core.Bool.{Bool, true}
use mathlib.Core.List.{List}
use mathlib.Core.Path.{◌≡◌, refl}
use Rattle.schema.specs.Schema.{fine, property, run}
use Rattle.schema.specs.Records.{good}
use Rattle.tree_report.specs.Encode.{Row, pair_row_of, main_row, skipped_row, kind_of_run, run_row, is_flaky_alone, status_rows, case_row, case_rows, suite_row, suite_rows, report_row, rows_of}
use Rattle.tree_report.specs.Fields.{kind_of}
use Rattle.tree_report.specs.Layout.{good_record}
use Rattle.tree_report.specs.Report.{Pair, NonSuccessKind, failure, error, FlakyOrRerun, flaky, rerun, TestRerun, Reason}
use Rattle.tree_report.specs.Report.{TestCaseStatus, success, non_success, skipped, TestCase, TestSuite, Report}
use Rattle.tree_report.proofs.EncodeLists.{Each, done, more, each_append, each_map, each_rows}

-- its table is fine, and is the one that a layout asks of a record of its kind
pub record Known (row : Row) : Type 0 where
  pub tested : fine row.table ≡ true
  pub passes : (texts w : List ℕ) → kind_of w ≡ row.kind → good row.table texts w ≡ true → good_record texts w ≡ true

known-pair : (kind : ℕ) (passes : (texts w : List ℕ) → kind_of w ≡ kind → good property texts w ≡ true → good_record texts w ≡ true) (p : Pair) → Known (pair_row_of kind p)
known-pair kind passes p = record { tested = refl; passes = passes }

known-main : (kind : NonSuccessKind) (is_flaky : Bool) (r : Reason) → Known (main_row kind is_flaky r)
unfolding good_record
known-main failure is_flaky r = record { tested = refl; passes = λ texts w e g. rw e g }
known-main error is_flaky r = record { tested = refl; passes = λ texts w e g. rw e g }

known-skipped : (r : Reason) → Known (skipped_row r)
unfolding good_record
known-skipped r = record { tested = refl; passes = λ texts w e g. rw e g }

run-passes : (family : FlakyOrRerun) (kind : NonSuccessKind) (texts w : List ℕ) → kind_of w ≡ kind_of_run family kind → good run texts w ≡ true → good_record texts w ≡ true
unfolding good_record
run-passes flaky failure texts w e g = rw e g
run-passes flaky error texts w e g = rw e g
run-passes rerun failure texts w e g = rw e g
run-passes rerun error texts w e g = rw e g

known-run : (family : FlakyOrRerun) (r : TestRerun) → Known (run_row family r)
known-run family r = record { tested = refl; passes = run-passes family r.kind }

known-case : (c : TestCase) → Known (case_row c)
unfolding good_record
known-case c = record { tested = refl; passes = λ texts w e g. rw e g }

known-suite : (s : TestSuite) → Known (suite_row s)
unfolding good_record
known-suite s = record { tested = refl; passes = λ texts w e g. rw e g }

known-report : (r : Report) → Known (report_row r)
unfolding good_record
known-report r = record { tested = refl; passes = λ texts w e g. rw e g }

-- ---- the rows of a report
known-status : (s : TestCaseStatus) → Each Known (status_rows s)
known-status (success runs) = each_map (run_row flaky) (known-run flaky) runs
known-status (non_success kind reason family runs) = more (known-main kind (is_flaky_alone family runs) reason) (each_map (run_row family) (known-run family) runs)
known-status (skipped reason) = more (known-skipped reason) done

known-case-rows : (c : TestCase) → Each Known (case_rows c)
unfolding good_record good
known-case-rows c =
    more (known-case c)
    (each_append (each_map (pair_row_of 14) (known-pair 14 (λ texts w e g. rw e g)) c.extra)
    (each_append (each_map (pair_row_of 5) (known-pair 5 (λ texts w e g. rw e g)) c.properties) (known-status c.status)))

known-suite-rows : (s : TestSuite) → Each Known (suite_rows s)
unfolding good_record good
known-suite-rows s =
    more (known-suite s)
    (each_append (each_map (pair_row_of 13) (known-pair 13 (λ texts w e g. rw e g)) s.extra)
    (each_append (each_map (pair_row_of 4) (known-pair 4 (λ texts w e g. rw e g)) s.properties) (each_rows case_rows known-case-rows s.cases)))

pub known-rows : (r : Report) → Each Known (rows_of r)
known-rows r = more (known-report r) (each_rows suite_rows known-suite-rows r.suites)
