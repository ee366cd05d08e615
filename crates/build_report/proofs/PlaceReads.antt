-- The record at a place has the setters of the place's target. Assumes nothing.
use Prim.Native.Nat.{ℕ, ◌+◌, ◌-◌}
use mathlib.Core.Bool.{true, false}
use mathlib.Core.List.{List, [], ◌∷◌, ◌++◌, map, append_assoc}
use mathlib.Core.Option.{some}
use mathlib.Core.Path.{◌≡◌, refl, sym, ap, ◌∙◌}
use native.Mathlib.Omega.{arith}
use lib.ListN.{length, length-append}
use Rattle.tree_placed.specs.of_tree_record.Kinds as kind
use Rattle.tree_placed.specs.of_tree_report.Report.{FlakyOrRerun, flaky, TestRerun, TestCaseStatus, success, non_success, skipped, TestCase, TestSuite, Report}
use Rattle.tree_placed.specs.of_tree_report.inside.Cells.{Row, pair_row_of, kind_of_main, run_row, main_row, is_flaky_alone, status_rows, case_row, case_rows, rows_of_each, suite_row, suite_rows, report_row, rows_of}
use Rattle.build_report.specs.Operations.{last_in, has_main, runs_in, Target, main, run}
use Rattle.build_report.specs.Stands.{all_but_last, suite_mark, case_mark, main_mark}
use Rattle.build_report.proofs.Openings.{before_suite, up_to_case, up_to_status, length-before-suite, length-up_to-case, length-up_to-status, rows-suite, rows-case, rows-status}
use Rattle.build_report.proofs.Spots.{runs_last}
use Rattle.build_report.proofs.PlaceTypes.{Place, at-report, at-suite, at-case, at-main, at-run, at_pair, at_none, Reads, no_row, one-row}
use Rattle.build_report.proofs.Places.{same_kind, same-fields, same-main, same-run}

module _ (r : Report) {s : TestSuite} {c : TestCase} (e : last_in r.suites ≡ some s) (d : last_in s.cases ≡ some c) where
  rows-of : (t : TestCaseStatus) → c.status ≡ t → rows_of r ≡ up_to_status r s c ++ status_rows t
  rows-of t h = rows-status r e d ∙ ap (λ (t : TestCaseStatus). up_to_status r s c ++ status_rows t) h

  reads-main : {i : ℕ} (t : TestCaseStatus) → c.status ≡ t → has_main t ≡ true → i ≡ main_mark (case_mark (suite_mark r) s) c → Reads r i main
  reads-main (success runs) h y n = let z : ◌≡◌ {A = ℕ} 0 1 = cc in absurd (omega arith)
  reads-main (non_success k m g runs) h y n =
      one-row (up_to_status r s c) (map (run_row g) runs) (main_row (kind_of_main k) (is_flaky_alone g runs) m) (rows-of (non_success k m g runs) h) (length-up_to-status r s c ∙ sym n) (same-main k)
  reads-main (skipped m) h y n =
      one-row (up_to_status r s c) [] (main_row kind.skipped false m) (rows-of (skipped m) h) (length-up_to-status r s c ∙ sym n) (same-fields 8 6 refl refl refl refl refl)

  -- a run's row stands last
  at-end : {i : ℕ} (front : List Row) (g : FlakyOrRerun) (x : TestRerun) → rows_of r ≡ front ++ (run_row g x ∷ []) → i ≡ length (rows_of r) - 1 → Reads r i run
  at-end front g x h n =
      let k : length (rows_of r) ≡ length front + 1 = ap length h ∙ length-append front (run_row g x ∷ []) in
      one-row front [] (run_row g x) h (omega arith) (same-run g x.kind)

  reads-run : {i : ℕ} (t : TestCaseStatus) → c.status ≡ t → {x : TestRerun} → last_in (runs_in t) ≡ some x → i ≡ length (rows_of r) - 1 → Reads r i run
  reads-run (success runs) h {x} l n =
      at-end (up_to_status r s c ++ map (run_row flaky) (all_but_last runs)) flaky x
      (rows-of (success runs) h ∙ ap (λ (k : List Row). up_to_status r s c ++ k) (runs_last flaky runs l)
      ∙ sym (append_assoc (up_to_status r s c) (map (run_row flaky) (all_but_last runs)) (run_row flaky x ∷ []))) n
  reads-run (non_success k m g runs) h {x} l n =
      let first : Row = main_row (kind_of_main k) (is_flaky_alone g runs) m in
      at-end (up_to_status r s c ++ (first ∷ map (run_row g) (all_but_last runs))) g x
      (rows-of (non_success k m g runs) h ∙ ap (λ (k : List Row). up_to_status r s c ++ (first ∷ k)) (runs_last g runs l)
      ∙ sym (append_assoc (up_to_status r s c) (first ∷ map (run_row g) (all_but_last runs)) (run_row g x ∷ []))) n
  reads-run (skipped m) h l n = let z : ◌≡◌ {A = ℕ} 0 1 = cc in absurd (omega arith)

pub reads : (r : Report) {i : ℕ} {t : Target} → Place r i t → Reads r i t
reads r (at-report n) = one-row [] (rows_of_each suite_rows r.suites) (report_row r) refl (sym n) (same_kind 1)
reads r (at-suite {s = s} e n) =
    one-row (before_suite r) (map (pair_row_of kind.suite_extra) s.extra ++ (map (pair_row_of kind.suite_property) s.properties ++ rows_of_each case_rows s.cases)) (suite_row s)
    (rows-suite r e) (length-before-suite r ∙ sym n) (same_kind 2)
reads r (at-case {s = s} {c = c} e d n) =
    one-row (up_to_case r s) (map (pair_row_of kind.case_extra) c.extra ++ (map (pair_row_of kind.case_property) c.properties ++ status_rows c.status)) (case_row c)
    (rows-case r e d) (length-up_to-case r s ∙ sym n) (same_kind 3)
reads r (at-main {c = c} e d h n) = reads-main r e d c.status refl h n
reads r (at-run {c = c} e d l n) = reads-run r e d c.status refl l n
reads r (at_pair front back κ p h n s) = one-row front back (pair_row_of κ p) h n s
reads r (at_none n) = no_row n refl
