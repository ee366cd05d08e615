-- A run more, and the runs of another family: the rows. Assumes nothing.
use Prim.Native.Nat.{ℕ}
use mathlib.Core.Bool.{false}
use mathlib.Core.List.{List, [], ◌∷◌, ◌++◌, map, append_assoc, map-append}
use mathlib.Core.Option.{some}
use mathlib.Core.Path.{◌≡◌, refl, sym, ap, ◌∙◌}
use Rattle.tree_placed.specs.of_tree_report.Report.{NonSuccessKind, failure, error, FlakyOrRerun, flaky, rerun, TestRerun, Reason, TestCaseStatus, success, non_success, TestCase, TestSuite, Report}
use Rattle.tree_placed.specs.of_tree_report.inside.Cells.{Row, main_row, kind_of_main, kind_of_run, run_row, is_flaky_alone, status_rows, rows_of}
use Rattle.tree_placed.specs.inside.Changed.{with_kind}
use Rattle.build_draft.specs.declared.NonSuccessKind.{NonSuccessKind as KindOfRun}
use Rattle.build_draft.specs.declared.NonSuccessKind.TheVariants as kinds
use Rattle.build_draft.specs.declared.FlakyOrRerun.{FlakyOrRerun as Family}
use Rattle.build_draft.specs.declared.FlakyOrRerun.TheVariants as families
use Rattle.build_draft.specs.Parts.{run_kind, turned_kind}
use Rattle.build_report.specs.Operations.{last_in, kind_for, family_for, with_run, with_family, on_status}
use Rattle.build_report.proofs.Openings.{up_to_status, rows-status, rows-on-status}

-- ---- kinds
pub run-kind : (f : Family) (k : KindOfRun) → kind_of_run (family_for f) (kind_for k) ≡ run_kind f k
run-kind families.Flaky kinds.Failure = refl
run-kind families.Flaky kinds.Error = refl
run-kind families.Rerun kinds.Failure = refl
run-kind families.Rerun kinds.Error = refl

-- the kind of a run in the other family
pub turned-kind : (f : Family) (g : FlakyOrRerun) (k : NonSuccessKind) → turned_kind f (kind_of_run g k) ≡ kind_of_run (family_for f) k
turned-kind families.Flaky flaky failure = refl
turned-kind families.Flaky flaky error = refl
turned-kind families.Flaky rerun failure = refl
turned-kind families.Flaky rerun error = refl
turned-kind families.Rerun flaky failure = refl
turned-kind families.Rerun flaky error = refl
turned-kind families.Rerun rerun failure = refl
turned-kind families.Rerun rerun error = refl

-- a row with its kind turned, and the rows of runs
abbrev pub turned_row : Family → Row → Row
turned_row f row = with_kind (turned_kind f row.kind) row

pub turned-run : (f : Family) (g : FlakyOrRerun) (run : TestRerun) → turned_row f (run_row g run) ≡ run_row (family_for f) run
turned-run f g run = ap (λ (κ : ℕ). with_kind κ (run_row g run)) (turned-kind f g run.kind)

pub turned-runs : (f : Family) (g : FlakyOrRerun) (runs : List TestRerun) → map (turned_row f) (map (run_row g) runs) ≡ map (run_row (family_for f)) runs
turned-runs f g [] = refl
turned-runs f g (run ∷ runs) = λ i. turned-run f g run i ∷ turned-runs f g runs i

-- ---- the report's rows
module _ (r : Report) {s : TestSuite} {c : TestCase} (e : last_in r.suites ≡ some s) (d : last_in s.cases ≡ some c) where
  -- a run on success is a flaky one
  pub rows-run-success : {runs : List TestRerun} → c.status ≡ success runs → (run : TestRerun) → rows_of (on_status (with_run run) r) ≡ rows_of r ++ (run_row flaky run ∷ [])
  rows-run-success {runs} h run =
      rows-on-status r e d (with_run run) ∙ ap (λ (t : TestCaseStatus). up_to_status r s c ++ status_rows (with_run run t)) h
      ∙ ap (λ (l : List Row). up_to_status r s c ++ l) (map-append (run_row flaky) runs (run ∷ []))
      ∙ sym (append_assoc (up_to_status r s c) (map (run_row flaky) runs) (run_row flaky run ∷ []))
      ∙ sym (ap (λ (l : List Row). l ++ (run_row flaky run ∷ [])) (rows-status r e d ∙ ap (λ (t : TestCaseStatus). up_to_status r s c ++ status_rows t) h))

  -- on failure and error it is of their family, and the flaky bit, which is for no runs, goes off
  pub rows_run : {k : NonSuccessKind} {m : Reason} {g : FlakyOrRerun} {runs : List TestRerun} → c.status ≡ non_success k m g runs → (run : TestRerun)
      → rows_of (on_status (with_run run) r) ≡ (up_to_status r s c ++ (main_row (kind_of_main k) false m ∷ map (run_row g) runs)) ++ (run_row g run ∷ [])
  rows_run {k} {m} {g} {runs} h run =
      rows-on-status r e d (with_run run) ∙ ap (λ (t : TestCaseStatus). up_to_status r s c ++ status_rows (with_run run t)) h
      ∙ (λ i. up_to_status r s c ++ (main_row (kind_of_main k) (not-alone g runs run i) m ∷ map-append (run_row g) runs (run ∷ []) i))
      ∙ sym (append_assoc (up_to_status r s c) (main_row (kind_of_main k) false m ∷ map (run_row g) runs) (run_row g run ∷ []))
    where
      not-alone : (g : FlakyOrRerun) (runs : List TestRerun) (run : TestRerun) → is_flaky_alone g (runs ++ (run ∷ [])) ≡ false
      not-alone rerun runs run = refl
      not-alone flaky [] run = refl
      not-alone flaky (x ∷ xs) run = refl

  -- the same report with the rows of a failure or error, before and with another family
  pub rows-main : {k : NonSuccessKind} {m : Reason} {g : FlakyOrRerun} {runs : List TestRerun} → c.status ≡ non_success k m g runs
      → rows_of r ≡ up_to_status r s c ++ (main_row (kind_of_main k) (is_flaky_alone g runs) m ∷ map (run_row g) runs)
  rows-main h = rows-status r e d ∙ ap (λ (t : TestCaseStatus). up_to_status r s c ++ status_rows t) h

  pub rows-family : (f : FlakyOrRerun) {k : NonSuccessKind} {m : Reason} {g : FlakyOrRerun} {runs : List TestRerun} → c.status ≡ non_success k m g runs
      → rows_of (on_status (with_family f) r) ≡ up_to_status r s c ++ (main_row (kind_of_main k) (is_flaky_alone f runs) m ∷ map (run_row f) runs)
  rows-family f h = rows-on-status r e d (with_family f) ∙ ap (λ (t : TestCaseStatus). up_to_status r s c ++ status_rows (with_family f t)) h

-- with runs there is no flaky bit
pub no_flag : (g : FlakyOrRerun) (run : TestRerun) (runs : List TestRerun) → is_flaky_alone g (run ∷ runs) ≡ false
no_flag flaky run runs = refl
no_flag rerun run runs = refl
