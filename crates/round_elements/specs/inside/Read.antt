-- Where reading stands between the elements of a suite, and the records of a whole case. Definitions only.
use Rattle.std.specs.Prelude.{ℕ, ◌≤◌, List, [], ◌∷◌, ◌++◌, true, false, ◌≡◌}
use Rattle.write_report.specs.of_table.Event.{Event}
use Rattle.read_machine.specs.of_tree_record.Kinds as kind
use Rattle.write_report.specs.of_tree_report.Report.{TestCase}
use Rattle.write_report.specs.of_tree_report.Fields.{kind_of}
use Rattle.write_report.specs.of_tree_report.ReportOf.{case_of}
use Rattle.read_machine.specs.of_read_element.Outcome.{unlimited}
use Rattle.read_machine.specs.of_read_state.Control.{Level, suite, at}
use Rattle.read_machine.specs.of_read_content.Content.{Content}
use Rattle.read_machine.specs.Machine.{Machine, run}
use Rattle.round_elements.specs.inside.Opened.{Lasting}

-- reading these events leads from s to t, whatever comes behind them
abbrev pub Leads : List Event → Machine → Machine → Type 0
Leads es s t = (rest : List Event) → run unlimited (es ++ rest) s ≡ run unlimited rest t

-- no text is open
abbrev pub settled : List (List ℕ) → List ℕ → Content
settled records texts = record { records = records; texts = texts; description = []; gathered = [] }

-- inside an element of a level whose report has begun, and isn't closed by an Empty; the open suite's record has number i
pub record Stands (l : Level) (i : ℕ) (records : List (List ℕ)) (texts : List ℕ) (s : Machine) : Type 0 where
  pub mode : s.control.mode ≡ at l
  pub seen : s.control.seen ≡ true
  pub closed : s.control.closed ≡ false
  pub content : s.content ≡ settled records texts
  pub suite_at_of : s.marks.suite_at_of ≡ i

-- what may stand behind a case's record: property, main, runs, extra
pub data BelowCase : List (List ℕ) → Type 0 where
  none : BelowCase []
  more : {r : List ℕ} {rs : List (List ℕ)} → (kind.case_property ≤ kind_of r) × (kind_of r ≤ kind.rerun_error) → BelowCase rs → BelowCase (r ∷ rs)
  extra : {r : List ℕ} {rs : List (List ℕ)} → kind_of r ≡ kind.case_extra → BelowCase rs → BelowCase (r ∷ rs)

pub record CaseRecords (texts : List ℕ) (rs : List (List ℕ)) (c : TestCase) : Type 0 where
  pub head : List ℕ
  pub below : List (List ℕ)
  pub whole : rs ≡ head ∷ below
  pub kind : kind_of head ≡ kind.case
  pub others : BelowCase below
  pub case : Lasting texts (λ t. case_of t (record { head = head; below = below })) c

-- these events, read inside a suite, add the records of a case
pub record CaseRead (i : ℕ) (records : List (List ℕ)) (texts : List ℕ) (es : List Event) (c : TestCase) (s : Machine) : Type 0 where
  pub after : Machine
  pub rows : List (List ℕ)
  pub added : List ℕ
  pub leads : Leads es s after
  pub stands : Stands suite i (records ++ rows) (texts ++ added) after
  pub read : CaseRecords (texts ++ added) rows c
