-- What a plain report asks of one case. Definitions only.
use Rattle.std.specs.Prelude.{List, ◌++◌, true, not, ◌≡◌}
use Rattle.std.proofs.Math.Option.{Option}
use Rattle.read_machine.specs.of_timestamp.declared.Moment.{Moment}
use Rattle.write_report.specs.of_tree_report.Report.{Text, Duration, TestRerun, Reason, TestCase}
use Rattle.write_report.specs.of_tree_report.Encode.{every}
use Rattle.write_report.specs.Written.{each, is_empty}
pub use Rattle.round_elements.specs.Plain.{whole_time, whole_moment}
use Rattle.round_elements.specs.Plain.{listed, reasons_in, runs_in, keys_of, bare, case_keys, good_keys, is_ruled}

-- ---- whole milliseconds, of one that may be missing
abbrev pub WholeTime : Option Duration → Type 0
WholeTime d = every whole_time (listed d) ≡ true

abbrev pub WholeMoment : Option Moment → Type 0
WholeMoment m = every whole_moment (listed m) ≡ true

-- ---- the parts of a case
abbrev pub descriptions_in : TestCase → List Text
descriptions_in c =
    each (λ (m : Reason). listed m.description) (reasons_in c.status)
    ++ each (λ (e : TestRerun). listed e.description) (runs_in c.status)

abbrev pub outputs_in : TestCase → List Text
outputs_in c =
    (listed c.system_out ++ listed c.system_err)
    ++ each (λ (e : TestRerun). listed e.stack_trace ++ (listed e.system_out ++ listed e.system_err)) (runs_in c.status)

abbrev pub times_in : TestCase → List Duration
times_in c = listed c.time ++ each (λ (e : TestRerun). listed e.time) (runs_in c.status)

abbrev pub timestamps_in : TestCase → List Moment
timestamps_in c = listed c.timestamp ++ each (λ (e : TestRerun). listed e.timestamp) (runs_in c.status)

pub record PlainCase (c : TestCase) : Type 0 where
  pub descriptions : every bare (descriptions_in c) ≡ true
  pub outputs : every bare (outputs_in c) ≡ true
  pub described : every (λ (t : Text). not (is_empty t)) (descriptions_in c) ≡ true
  pub times : every whole_time (times_in c) ≡ true
  pub timestamps : every whole_moment (timestamps_in c) ≡ true
  pub keys : good_keys case_keys (keys_of c.extra) ≡ true
  pub ruled : is_ruled c.status ≡ true
