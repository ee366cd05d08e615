-- What writing answers and leaves in the three areas (rules W13 and F13). Definitions only.
use Rattle.std.specs.Prelude.{ℕ, ◌/◌, List, [], cond, length}
use Rattle.std.proofs.Math.Option.{Option, none, some}
use Rattle.write_report.specs.of_area.Answer.{Answer, gives, refuses}
use Rattle.write_report.specs.of_area.Area.{zeros, laid}
use Rattle.write_report.specs.of_refusal.Refusal.{Outcome, accepted, refused, late}
use Rattle.write_report.specs.of_table.Event.{Event}
use Rattle.write_report.specs.of_tree_report.Report.{Report}
use Rattle.write_report.specs.of_tree_report.ReportOf.{report_of}
use Rattle.write_report.specs.of_tree_report.Layout.{layout}
use Rattle.write_report.specs.Written.{written}
use Rattle.write_table.specs.Laid.{Table, laid_out, fits}
use Rattle.write_report.specs.of_refusal.declared.Cause.TheVariants as cause

-- the numbers of events, attributes and bytes
pub record Sizes : Type 0 where
  pub events : ℕ
  pub attributes : ℕ
  pub bytes : ℕ

abbrev pub written_or : Option Report → List Event
written_or none = []
written_or (some r) = written r

-- the events of two areas, and the table that holds them
unfoldable pub events_of : List ℕ → List ℕ → List Event
events_of words text = written_or (report_of words text)

unfoldable pub table_of : List ℕ → List ℕ → Table
table_of words text = laid_out (events_of words text)

-- 15: not a layout, then 16: areas of so many words, words and bytes too short; any layout is written (rules W13 and W14)
unfoldable pub writing_answer : List ℕ → List ℕ → ℕ → ℕ → ℕ → Answer Sizes
writing_answer words text events attributes bytes =
    let t = table_of words text in
    cond (layout words text)
    (cond (fits t events attributes bytes)
    (gives (record { events = length t.events / 5; attributes = length t.attributes / 5; bytes = length t.bytes }))
    (refuses cause.OutputFull))
    (refuses cause.NotLayout)

abbrev pub outcome_of : Answer Sizes → Outcome Sizes
outcome_of (gives s) = accepted s
outcome_of (refuses c) = refused (late c)

abbrev pub wrote : List ℕ → List ℕ → ℕ → ℕ → ℕ → Outcome Sizes
wrote words text events attributes bytes = outcome_of (writing_answer words text events attributes bytes)

-- the areas afterwards: the table with zeros behind it, or zeros throughout at a refusal (rule F13)
abbrev pub left_for : Answer Sizes → ℕ → List ℕ → List ℕ
left_for (gives s) n f = laid (zeros n) f
left_for (refuses k) n f = zeros n

-- rule W13
unfoldable pub events_left : List ℕ → List ℕ → ℕ → ℕ → ℕ → List ℕ
events_left words text events attributes bytes = left_for (writing_answer words text events attributes bytes) events (table_of words text).events

unfoldable pub attributes_left : List ℕ → List ℕ → ℕ → ℕ → ℕ → List ℕ
attributes_left words text events attributes bytes = left_for (writing_answer words text events attributes bytes) attributes (table_of words text).attributes

unfoldable pub bytes_left : List ℕ → List ℕ → ℕ → ℕ → ℕ → List ℕ
bytes_left words text events attributes bytes = left_for (writing_answer words text events attributes bytes) bytes (table_of words text).bytes
