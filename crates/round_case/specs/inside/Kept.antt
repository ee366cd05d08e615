-- The records of a case's status elements, and the status that they show. Definitions only.
use Rattle.std.specs.Prelude.{ℕ, List, [], ◌∷◌, true, ◌&&◌, ◌≡◌, leb}
use Rattle.round_elements.specs.of_tree_record.Kinds as kind
use Rattle.round_elements.specs.of_tree_status.declared.Tally.{Tally}
use Rattle.round_elements.specs.of_tree_status.Status.{no_status, tallied}
use Rattle.round_elements.specs.of_tree_report.Report.{FlakyOrRerun, flaky, TestRerun, TestCaseStatus, success, non_success, skipped}
use Rattle.round_elements.specs.of_tree_report.Encode.{every, kind_of_main, kind_of_run}
use Rattle.round_elements.specs.of_tree_report.Fields.{kind_of, is_main, is_run}
use Rattle.round_elements.specs.of_tree_report.ReportOf.{only, status_of}
use Rattle.round_elements.specs.inside.Opened.{Lasting}
use Rattle.round_elements.specs.inside.Held.{RunHeld}

-- a run with all of its texts
abbrev pub RunWhole : FlakyOrRerun → TestRerun → List ℕ → List ℕ → Type 0
RunWhole family e texts r = RunHeld family e e.stack_trace e.system_out e.system_err e.description texts r

pub data RunsWhole (family : FlakyOrRerun) (texts : List ℕ) : List (List ℕ) → List TestRerun → Type 0 where
  none : RunsWhole family texts [] []
  more : {r : List ℕ} {e : TestRerun} {rs : List (List ℕ)} {es : List TestRerun} → RunWhole family e texts r → RunsWhole family texts rs es → RunsWhole family texts (r ∷ rs) (e ∷ es)

-- the tally behind runs
abbrev pub runs_tally : FlakyOrRerun → List TestRerun → Tally → Tally
runs_tally family [] t = t
runs_tally family (e ∷ es) t = runs_tally family es (tallied t (kind_of_run family e.kind))

-- the tally behind all status elements of a case
abbrev pub status_tally : TestCaseStatus → Tally
status_tally (success runs) = runs_tally flaky runs no_status
status_tally (non_success k reason family runs) = runs_tally family runs (tallied no_status (kind_of_main k))
status_tally (skipped reason) = tallied no_status kind.skipped

-- a case's status in the records of its status elements
pub record StatusWhole (st : TestCaseStatus) (texts : List ℕ) (rs : List (List ℕ)) : Type 0 where
  pub kinds : every (λ r. leb kind.failure (kind_of r) && leb (kind_of r) kind.rerun_error) rs ≡ true
  pub status : Lasting texts (λ t. status_of t (only is_main rs) (only is_run rs)) st
