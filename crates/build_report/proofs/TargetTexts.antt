-- A text set in a target's record is one part of its row. Assumes nothing.
use Prim.Native.Nat.{ℕ}
use mathlib.Core.Bool.{Bool, true, false≢true}
use mathlib.Core.Option.{some}
use mathlib.Core.Path.{◌≡◌, refl}
use Rattle.tree_placed.specs.of_tree_report.Report.{Text, FlakyOrRerun, TestRerun, Reason, TestCase, TestSuite, Report}
use Rattle.tree_placed.specs.of_tree_report.inside.Cells.{main_row, run_row}
use Rattle.build_draft.specs.declared.Builder.{Builder}
use Rattle.build_draft.specs.declared.TextField.{TextField}
use Rattle.build_draft.specs.declared.TextField.TheVariants as field
use Rattle.build_draft.specs.Parts.{has_text}
use Rattle.build_report.specs.Operations.{last_in, Target, suite, case, kind_of_target, suite_text, case_text, reason_text, run_text, set_text}
use Rattle.build_report.specs.Stands.{suite_mark, case_mark, Marked}
use Rattle.build_report.proofs.PlaceTypes.{Place, at-report, at-suite, at-case, at-main, at-run, at_pair, at_none}
use Rattle.build_report.proofs.Becoming.{with_text}
use Rattle.build_report.proofs.Targets.{Altered, suite-altered, case-altered, main-altered, run-altered}

-- ---- which elements have which texts
no-report-text : (f : TextField) → has_text 1 f ≡ true → ⊥
no-report-text field.Classname e = false≢true e
no-report-text field.Message e = false≢true e
no-report-text field.Ty e = false≢true e
no-report-text field.Description e = false≢true e
no-report-text field.StackTrace e = false≢true e
no-report-text field.SystemOut e = false≢true e
no-report-text field.SystemErr e = false≢true e
no-report-text field.Hostname e = false≢true e

no-pair-text : (f : TextField) → has_text 4 f ≡ true → ⊥
no-pair-text field.Classname e = false≢true e
no-pair-text field.Message e = false≢true e
no-pair-text field.Ty e = false≢true e
no-pair-text field.Description e = false≢true e
no-pair-text field.StackTrace e = false≢true e
no-pair-text field.SystemOut e = false≢true e
no-pair-text field.SystemErr e = false≢true e
no-pair-text field.Hostname e = false≢true e

-- ---- the rows
module _ {b : Builder} (r : Report) (m : Marked b r) (v : Text) where
  suite-text : {s : TestSuite} {i : ℕ} (f : TextField) → last_in r.suites ≡ some s → i ≡ suite_mark r → has_text 2 f ≡ true → Altered b r i (with_text f v) (set_text suite f v r)
  suite-text field.Classname e n h = absurd (false≢true h)
  suite-text field.Message e n h = absurd (false≢true h)
  suite-text field.Ty e n h = absurd (false≢true h)
  suite-text field.Description e n h = absurd (false≢true h)
  suite-text field.StackTrace e n h = absurd (false≢true h)
  suite-text field.SystemOut e n h = suite-altered r m (with_text field.SystemOut v) (suite_text field.SystemOut v) e n refl refl refl refl
  suite-text field.SystemErr e n h = suite-altered r m (with_text field.SystemErr v) (suite_text field.SystemErr v) e n refl refl refl refl
  suite-text field.Hostname e n h = suite-altered r m (with_text field.Hostname v) (suite_text field.Hostname v) e n refl refl refl refl

  case-text : {s : TestSuite} {c : TestCase} {i : ℕ} (f : TextField) → last_in r.suites ≡ some s → last_in s.cases ≡ some c → i ≡ case_mark (suite_mark r) s → has_text 3 f ≡ true
      → Altered b r i (with_text f v) (set_text case f v r)
  case-text field.Classname e d n h = case-altered r m (with_text field.Classname v) e d (case_text field.Classname v) n refl refl refl refl
  case-text field.Message e d n h = absurd (false≢true h)
  case-text field.Ty e d n h = absurd (false≢true h)
  case-text field.Description e d n h = absurd (false≢true h)
  case-text field.StackTrace e d n h = absurd (false≢true h)
  case-text field.SystemOut e d n h = case-altered r m (with_text field.SystemOut v) e d (case_text field.SystemOut v) n refl refl refl refl
  case-text field.SystemErr e d n h = case-altered r m (with_text field.SystemErr v) e d (case_text field.SystemErr v) n refl refl refl refl
  case-text field.Hostname e d n h = absurd (false≢true h)

  main-row : (f : TextField) → has_text 6 f ≡ true → (k : ℕ) (a : Bool) (g : Reason) → main_row k a (reason_text f v g) ≡ with_text f v (main_row k a g)
  main-row field.Classname h k a g = absurd (false≢true h)
  main-row field.Message h k a g = refl
  main-row field.Ty h k a g = refl
  main-row field.Description h k a g = refl
  main-row field.StackTrace h k a g = absurd (false≢true h)
  main-row field.SystemOut h k a g = absurd (false≢true h)
  main-row field.SystemErr h k a g = absurd (false≢true h)
  main-row field.Hostname h k a g = absurd (false≢true h)

  run-row : (f : TextField) → has_text 9 f ≡ true → (g : FlakyOrRerun) (x : TestRerun) → run_row g (run_text f v x) ≡ with_text f v (run_row g x)
  run-row field.Classname h g x = absurd (false≢true h)
  run-row field.Message h g x = refl
  run-row field.Ty h g x = refl
  run-row field.Description h g x = refl
  run-row field.StackTrace h g x = refl
  run-row field.SystemOut h g x = refl
  run-row field.SystemErr h g x = refl
  run-row field.Hostname h g x = absurd (false≢true h)

  pub text-altered : {i : ℕ} {t : Target} (f : TextField) → Place r i t → has_text (kind_of_target t) f ≡ true → Altered b r i (with_text f v) (set_text t f v r)
  text-altered f (at-report n) h = absurd (no-report-text f h)
  text-altered f (at-suite e n) h = suite-text f e n h
  text-altered f (at-case e d n) h = case-text f e d n h
  text-altered f (at-main e d y n) h = main-altered r m (with_text f v) e d (reason_text f v) y n (main-row f h)
  text-altered f (at-run e d l n) h = run-altered r m (with_text f v) e d (run_text f v) l n (run-row f h)
  text-altered f (at_pair front back κ p w n s) h = absurd (no-pair-text f h)
  text-altered f (at_none n) h = absurd (no-pair-text f h)
