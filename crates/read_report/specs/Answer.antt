-- What reading a table answers in areas of any lengths, and what it leaves there, on values. Definitions only.
use Rattle.std.specs.Prelude.{ℕ, ◌≡◌, List, true}
use Rattle.std.proofs.Math.Option.{some}
use Rattle.tree_placed.specs.of_area.Area.{zeros}
use Rattle.tree_placed.specs.of_refusal.Refusal.{Refused, Outcome, accepted, refused}
use Rattle.read_machine.specs.of_table.Event.{Event, resolve}
use Rattle.read_machine.specs.of_table.Table.{table_of}
use Rattle.tree_placed.specs.of_tree_report.Report.{Report}
use Rattle.tree_placed.specs.of_tree_report.Layout.{layout}
use Rattle.tree_placed.specs.of_tree_report.ReportOf.{report_of}
use Rattle.read_machine.specs.of_read_element.Outcome.{◌>>=◌, rooms_of}
use Rattle.read_report.specs.Deserialize.{deserialize_in}

-- a table is any words and bytes
pub record Table : Type 0 where
  pub events : List ℕ
  pub attributes : List ℕ
  pub source : List ℕ

-- lengths of areas, any: the record area's words, the bytes of the text area, of scratch and of the output area
pub record Areas : Type 0 where
  pub words : ℕ
  pub text : ℕ
  pub scratch : ℕ
  pub output : ℕ

abbrev pub events_of : Table → List Event
events_of t = resolve t.events t.attributes t.source

-- 11 or not
abbrev pub checked : Table → Outcome (Unit {0})
checked t = table_of t.events t.attributes t.source

-- the whole table is checked first (rule T6); then its events are read in the room that the areas have
unfoldable pub answer_to : Table → Areas → Outcome Report
answer_to t a = checked t >>= λ _. deserialize_in (rooms_of a.words a.text a.scratch) (events_of t)

-- ---- what is left
-- two areas are a layout, and r is the report that they hold
pub record Holds (r : Report) (words text : List ℕ) : Type 0 where
  pub whole : layout words text ≡ true
  pub report : report_of words text ≡ some r

-- behind an answer: the report, in a layout, or zeros (rule F13); scratch is zero anyway
pub data Leaves (a : Areas) (words text scratch : List ℕ) : Outcome Report → Type 0 where
  holds : {r : Report} → Holds r words text → scratch ≡ zeros a.scratch → Leaves a words text scratch (accepted r)
  zeroed : {why : Refused} → words ≡ zeros a.words → text ≡ zeros a.text → scratch ≡ zeros a.scratch → Leaves a words text scratch (refused why)
