-- The run of a table that reading accepts, and its report. Assumes nothing.
use Prim.Native.Nat.{ℕ}
use mathlib.Core.Path.{◌≡◌, ap, ◌∙◌}
use mathlib.Core.List.{List, [], append-nil}
use mathlib.Core.Option.{some}
use Rattle.read_report.specs.of_refusal.Refusal.{accepted}
use Rattle.read_report.specs.of_table.Event.{Event, resolve}
use Rattle.list_text.specs.of_tree_report.Report.{Report}
use Rattle.list_text.specs.of_tree_report.Fields.{live}
use Rattle.list_text.specs.of_tree_report.ReportOf.{only, report_from}
use Rattle.read_report.specs.of_read_element.Outcome.{rooms_of}
use Rattle.read_report.specs.of_read_machine.Machine.{Machine, run, begin}
use Rattle.read_report.specs.of_read_machine.Reading.{reading, deserialize}
use Rattle.read_report.proofs.of_read_machine.RoomsReading.{reading-accepts}
use Rattle.read_report.proofs.of_read_machine.TreeReading.{reading-some, resolve-fair}
use Rattle.public_claims.proofs.AcceptedRun.{report_left}

module _ (events attributes source : List ℕ) (n m k : ℕ) where
  abbrev es : List Event
  es = resolve events attributes source

  -- its run, and the report that this leaves and that the rules give
  pub record Accepted : Type 0 where
    pub machine : Machine
    pub ran : run (rooms_of n m k) es begin ≡ accepted machine
    pub report : Report
    pub left : report_left machine [] ≡ some report
    pub read : deserialize es ≡ accepted (some report)

  pub accepted-table : (reading events attributes source n m k).outcome ≡ accepted tt → Accepted
  accepted-table e =
      let h = reading-accepts events attributes source n m k e in
      let s : Machine = h.0 in
      let q = reading-some n m k es s (resolve-fair events attributes source) h.1 in
      record {
        machine = s;
        ran = h.1;
        report = q.0;
        left = ap (λ (t : List ℕ). report_from t (only live s.content.records)) (append-nil s.content.texts) ∙ q.1;
        read = h.3 ∙ ap accepted q.1;
      }
