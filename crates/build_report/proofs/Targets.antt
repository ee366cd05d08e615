-- The record that a setter is for: its tests, and what a change of it comes to. Assumes nothing.
use Prim.Native.Nat.{ℕ, ◌-◌}
use mathlib.Core.Bool.{Bool, true, false, ◌&&◌, false≢true}
use mathlib.Core.List.{List, ◌∷◌, ◌++◌}
use mathlib.Core.Option.{some}
use mathlib.Core.Path.{◌≡◌, refl, sym, ap, ap₂, ◌∙◌}
use native.Mathlib.Omega.{arith}
use lib.ListN.{length}
use Rattle.tree_placed.specs.of_refusal.Refusal.{nowhere}
use Rattle.tree_placed.specs.of_tree_report.Report.{FlakyOrRerun, flaky, TestRerun, Reason, TestCaseStatus, success, non_success, skipped, TestCase, TestSuite, Report}
use Rattle.tree_placed.specs.of_tree_report.inside.Cells.{Row, main_row, kind_of_main, is_flaky_alone, run_row, case_row, suite_row, report_row, rows_of}
use Rattle.build_draft.specs.declared.Builder.{Builder}
use Rattle.build_draft.specs.declared.TextField.{TextField}
use Rattle.build_draft.specs.declared.TextField.TheVariants as field
use Rattle.build_draft.specs.Draft.{is_record, kind_at}
use Rattle.build_draft.specs.Parts.{has_text, has_times}
use Rattle.build_report.specs.Operations.{last_in, has_main, runs_in, on_suite, on_case, on_status, on_reason, on_run, Target, kind_of_target}
use Rattle.build_report.specs.Stands.{suite_mark, case_mark, main_mark, Marked, Stored}
use Rattle.build_report.proofs.SpotTypes.{Spot}
use Rattle.build_report.proofs.PlaceTypes.{Reads, no_row, one-row}
use Rattle.build_report.proofs.Spots.{spot-report, spot-suite, spot-case, spot-reason, spot-skipped, spot_run-success, spot-run}
use Rattle.build_report.proofs.Marks.{marked-suites, marked-suite, marked-case, marked-status, main-reason, main-run}
use Rattle.build_report.proofs.Storing.{holding, kind-nowhere, nowhere-record, parted, kind-there, record-there}

-- ---- the tests of a setter
no_text : (f : TextField) → has_text 0 f ≡ has_text 4 f
no_text field.Classname = refl
no_text field.Message = refl
no_text field.Ty = refl
no_text field.Description = refl
no_text field.StackTrace = refl
no_text field.SystemOut = refl
no_text field.SystemErr = refl
no_text field.Hostname = refl

module _ {b : Builder} {words text : List ℕ} {r : Report} (s : Stored b words text r) {i : ℕ} {t : Target} where
  pub text-test : (f : TextField) → Reads r i t → has_text (kind_at words i) f ≡ has_text (kind_of_target t) f
  text-test f (no_row n e) =
      ap (λ (k : ℕ). has_text (kind_at words k) f) n ∙ ap (λ (k : ℕ). has_text k f) (kind-nowhere s) ∙ no_text f ∙ ap (λ (t : Target). has_text (kind_of_target t) f) (sym e)
  text-test f (one-row front back row h at same) =
      ap (λ (k : ℕ). has_text k f) (kind-there (parted front row back (holding s) (s.rows ∙ h)) at) ∙ same.text f

  pub times-test : Reads r i t → (is_record b words i && has_times (kind_at words i)) ≡ has_times (kind_of_target t)
  times-test (no_row n e) =
      ap (λ (k : ℕ). is_record b words k && has_times (kind_at words k)) n ∙ ap (λ (c : Bool). c && has_times (kind_at words nowhere)) (nowhere-record s)
      ∙ ap (λ (t : Target). has_times (kind_of_target t)) (sym e)
  times-test (one-row front back row h at same) =
      let d = parted front row back (holding s) (s.rows ∙ h) in
      ap₂ (λ (c : Bool) (k : ℕ). c && has_times k) (record-there d at) (kind-there d at) ∙ same.times

-- ---- a change of one row that keeps the marks
pub record Altered (b : Builder) (r : Report) (i : ℕ) (change : Row → Row) (r' : Report) : Type 0 where
  pub row : Row
  pub spot : Spot r i row r' (change row)
  pub marks : Marked b r'

pub altered : {b : Builder} {r r' : Report} {i n : ℕ} {row row' : Row} (change : Row → Row) → Spot r n row r' row' → i ≡ n → row' ≡ change row → Marked b r' → Altered b r i change r'
altered {row = row} change t e h m = record {
  row = row;
  spot = record { front = t.front; back = t.back; here = t.here; there = t.there ∙ ap (λ (x : Row). t.front ++ (x ∷ t.back)) h; at = t.at ∙ sym e };
  marks = m;
}

-- ---- of the open elements
module _ {b : Builder} (r : Report) (m : Marked b r) (change : Row → Row) where
  pub report-altered : {i : ℕ} (r' : Report) → r.suites ≡ r'.suites → i ≡ 0 → report_row r' ≡ change (report_row r) → Altered b r i change r'
  report-altered r' e n w = altered change (spot-report r r' e) n w (marked-suites r r' e m)

  pub suite-altered : {s : TestSuite} {i : ℕ} (f : TestSuite → TestSuite) → last_in r.suites ≡ some s → i ≡ suite_mark r
      → s.extra ≡ (f s).extra → s.properties ≡ (f s).properties → s.cases ≡ (f s).cases → suite_row (f s) ≡ change (suite_row s) → Altered b r i change (on_suite f r)
  suite-altered f e n x p c w = altered change (spot-suite f r e x p c) n w (marked-suite f r e (ap length x) (ap length p) c m)

  module _ {s : TestSuite} {c : TestCase} {i : ℕ} (e : last_in r.suites ≡ some s) (d : last_in s.cases ≡ some c) where
    pub case-altered : (f : TestCase → TestCase) → i ≡ case_mark (suite_mark r) s
        → c.extra ≡ (f c).extra → c.properties ≡ (f c).properties → c.status ≡ (f c).status → case_row (f c) ≡ change (case_row c) → Altered b r i change (on_case f r)
    case-altered f n x p t w = altered change (spot-case r e d f x p t) n w (marked-case f r e d (ap length x) (ap length p) (ap has_main t) m)

    pub main-altered : (f : Reason → Reason) → has_main c.status ≡ true → i ≡ main_mark (case_mark (suite_mark r) s) c
        → ((k : ℕ) (a : Bool) (g : Reason) → main_row k a (f g) ≡ change (main_row k a g)) → Altered b r i change (on_status (on_reason f) r)
    main-altered f y n w = go c.status refl
      where
        marks : Marked b (on_status (on_reason f) r)
        marks = marked-status (on_reason f) r e d (main-reason f c.status) m

        go : (t : TestCaseStatus) → c.status ≡ t → Altered b r i change (on_status (on_reason f) r)
        go (success runs) q = absurd (false≢true (sym (ap has_main q) ∙ y))
        go (non_success k g fam runs) q = altered change (spot-reason r e d f q) n (w (kind_of_main k) (is_flaky_alone fam runs) g) marks
        go (skipped g) q = altered change (spot-skipped r e d f q) n (w 8 false g) marks

    pub run-altered : {x : TestRerun} (f : TestRerun → TestRerun) → last_in (runs_in c.status) ≡ some x → i ≡ length (rows_of r) - 1
        → ((g : FlakyOrRerun) (y : TestRerun) → run_row g (f y) ≡ change (run_row g y)) → Altered b r i change (on_status (on_run f) r)
    run-altered {x} f l n w = go c.status refl l
      where
        marks : Marked b (on_status (on_run f) r)
        marks = marked-status (on_run f) r e d (main-run f c.status) m

        go : (t : TestCaseStatus) → c.status ≡ t → last_in (runs_in t) ≡ some x → Altered b r i change (on_status (on_run f) r)
        go (success runs) q l = altered change (spot_run-success r e d f q l) n (w flaky x) marks
        go (non_success k g fam runs) q l = altered change (spot-run r e d f q l) n (w fam x) marks
        go (skipped g) q l = let z : ◌≡◌ {A = ℕ} 0 1 = cc in absurd (omega arith)
