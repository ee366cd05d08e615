-- The status elements of a case are read back. Assumes nothing.
use Prim.Native.Nat.{ℕ}
use mathlib.Core.Bool.{true}
use mathlib.Core.List.{List, [], ◌∷◌}
use mathlib.Core.Path.{◌≡◌}
use Rattle.round_elements.specs.of_tree_status.Status.{no_status}
use Rattle.round_elements.specs.of_tree_report.Report.{flaky, Reason, TestCaseStatus, success, non_success, skipped}
use Rattle.round_elements.specs.of_tree_report.inside.Cells.{of_text, fits_cell}
use Rattle.round_elements.proofs.of_tree_report.EncodeLists.{Each}
use Rattle.round_elements.specs.of_read_state.Control.{case, at}
use Rattle.round_elements.specs.of_read_machine.Machine.{Machine}
use Rattle.round_elements.specs.of_write_report.Written.{each, main_name, serialize_status, serialize_rerun, serialize_elements}
use Rattle.round_elements.specs.Plain.{is_ruled}
use Rattle.round_elements.proofs.Gathered.{main-on}
use Rattle.round_case.specs.inside.Amid.{Reads, Between, Adds}
use Rattle.round_case.specs.inside.Kept.{StatusWhole, status_tally}
use Rattle.round_case.proofs.Following.{reads_then, reads_as}
use Rattle.round_case.proofs.Clean.{Describes}
use Rattle.round_case.proofs.Mains.{main-named, skipped-named, main-reads}
use Rattle.round_case.proofs.Runs.{RunClean}
use Rattle.round_case.proofs.Rows.{adds-joined, holder-between}
use Rattle.round_case.proofs.RunRows.{runs-read}
use Rattle.round_case.proofs.StatusRows.{success-whole, non_success-whole, skipped-whole}

pub record ReasonClean (m : Reason) : Type 0 where
  pub message : fits_cell (of_text m.message) ≡ true
  pub type : fits_cell (of_text m.type) ≡ true
  pub description : Describes m.description

abbrev pub StatusClean : TestCaseStatus → Type 0
StatusClean (success runs) = Each (RunClean flaky) runs
StatusClean (non_success k reason family runs) = ReasonClean reason × Each (RunClean family) runs
StatusClean (skipped reason) = ReasonClean reason

module _ {i k : ℕ} where
  pub status-reads : {n : ℕ} {records : List (List ℕ)} {texts : List ℕ} {s : Machine} (st : TestCaseStatus) → StatusClean st → is_ruled st ≡ true → Between (at case) no_status i k records texts s
      → Reads n (serialize_elements st) s (Adds (at case) (status_tally st) i k records texts (StatusWhole st))
  unfolding serialize_elements
  status-reads (success runs) c e b = reads_as (runs-read c b) (λ t a. record { rows = a.rows; added = a.added; shown = success-whole a.shown; stands = a.stands })
  status-reads (non_success x reason family runs) c e b =
      reads_then (serialize_status (main_name x) reason) (each (serialize_rerun family) runs) (main-reads (main-named x) reason c.0.message c.0.type c.0.description b.amid) (λ j t h.
      reads_as (runs-read c.1 (holder-between b.suite_at_of b.case_at_of h)) (λ u a.
      adds-joined (h.row ∷ []) h.added (λ v rs y. non_success-whole e (main-on v h.shown) y) a))
  status-reads (skipped reason) c e b =
      reads_as (main-reads skipped-named reason c.message c.type c.description b.amid) (λ t h.
      record { rows = h.row ∷ []; added = h.added; shown = skipped-whole h.shown; stands = holder-between b.suite_at_of b.case_at_of h })
