-- What reading a table gives: answer, refusal and the areas afterwards. Definitions only.
use Rattle.std.specs.Prelude.{ℕ, List}
use Rattle.std.proofs.Math.Option.{Option}
use Rattle.text_pieces.specs.of_area.Area.{zeros, laid}
use Rattle.text_pieces.specs.of_utf8.Characters.{joined}
use Rattle.text_pieces.specs.of_refusal.Refusal.{Outcome, accepted, refused}
use Rattle.table_events.specs.of_table.Event.{Event, resolve}
use Rattle.table_events.specs.of_table.Table.{table_of}
use Rattle.read_path.specs.of_tree_report.Report.{Report}
use Rattle.read_path.specs.of_tree_report.ReportOf.{report_from, only}
use Rattle.read_path.specs.of_tree_report.Fields.{live}
use Rattle.read_path.specs.of_read_element.Outcome.{◌>>=◌, rooms_of, unlimited}
use Rattle.read_machine.specs.Machine.{Machine, run, begin}

-- the answer, and the three areas
pub record Read : Type 0 where
  pub outcome : Outcome (Unit {0})
  pub words : List ℕ
  pub text : List ℕ
  pub scratch : List ℕ

-- what isn't used is zero (rule M11), and at a refusal everything is (rule F13)
unfoldable pub read_as : ℕ → ℕ → ℕ → Outcome Machine → Read
read_as words text scratch (accepted s) =
    record {
      outcome = accepted tt;
      words = laid (zeros words) (joined s.content.records);
      text = laid (zeros text) s.content.texts;
      scratch = zeros scratch;
    }
read_as words text scratch (refused r) = record { outcome = refused r; words = zeros words; text = zeros text; scratch = zeros scratch }

-- the whole table is checked first (rule T6); then its events are read from the top, by the rules alone (rule R1)
unfoldable pub reading : List ℕ → List ℕ → List ℕ → ℕ → ℕ → ℕ → Read
reading events attributes source words text scratch =
    read_as words text scratch (table_of events attributes source >>= λ _. run (rooms_of words text scratch) (resolve events attributes source) begin)

-- the same without areas, as `Report::deserialize` of the crate (rule R1)
unfoldable pub deserialize : List Event → Outcome (Option Report)
deserialize es = run unlimited es begin >>= λ s. accepted (report_from s.content.texts (only live s.content.records))
