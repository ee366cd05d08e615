-- When a builder stands over a report: its areas hold the report, and its marks are right. Definitions only.
use Rattle.std.specs.Prelude.{ℕ, ◌+◌, ◌≤◌, List, [], ◌∷◌, Bool, true, false, cond, ◌≡◌, length}
use Rattle.std.proofs.Math.Option.{Option, none, some}
use Rattle.tree_placed.specs.of_refusal.Refusal.{nowhere, Outcome, accepted, refused, late}
use Rattle.tree_placed.specs.of_refusal.declared.Cause.{Cause}
use Rattle.tree_placed.specs.of_area.Area.{zeros, laid}
use Rattle.tree_placed.specs.of_utf8.Characters.{joined}
use Rattle.tree_placed.specs.of_utf8.Utf8.{utf8}
use Rattle.tree_placed.specs.of_text_filter.Filter.{unfiltered}
use Rattle.tree_placed.specs.of_tree_report.Report.{TestCase, TestSuite, Report}
use Rattle.tree_placed.specs.of_tree_report.Layout.{layout}
use Rattle.tree_placed.specs.of_tree_report.ReportOf.{report_of}
use Rattle.tree_placed.specs.of_tree_report.inside.Cells.{every, fits_row, rows_of_each, case_rows, suite_rows, rows_of}
use Rattle.tree_placed.specs.of_tree_report.inside.Each.{Each}
use Rattle.tree_placed.specs.inside.Placed.{Placed, records_in, rows_in, InTexts}
use Rattle.build_draft.specs.declared.Builder.{Builder}
use Rattle.build_draft.specs.Draft.{Draft, room_for, bytes_for}
use Rattle.build_report.specs.Operations.{last_in, open_case, has_main}

-- the areas are a layout and hold the report
abbrev pub Holds : List ℕ → List ℕ → Report → Type 0
Holds words text r = (layout words text ≡ true) × (report_of words text ≡ some r)

-- ---- the marks that are right: the numbers of the records of the open suite, the open case and its main
abbrev pub all_but_last : {A : Type 0} → List A → List A
all_but_last [] = []
all_but_last (x ∷ []) = []
all_but_last (x ∷ (y ∷ ys)) = x ∷ all_but_last (y ∷ ys)

abbrev pub suite_mark : Report → ℕ
suite_mark r = 1 + length (rows_of_each suite_rows (all_but_last r.suites))

abbrev pub case_mark : ℕ → TestSuite → ℕ
case_mark at s = at + 1 + length s.extra + length s.properties + length (rows_of_each case_rows (all_but_last s.cases))

abbrev pub main_mark : ℕ → TestCase → ℕ
main_mark at c = at + 1 + length c.extra + length c.properties

-- of an element that is open, or none
abbrev pub suite_mark_of : Report → Option TestSuite → ℕ
suite_mark_of r none = nowhere
suite_mark_of r (some s) = suite_mark r

abbrev pub case_mark_of : Report → Option TestSuite → Option TestCase → ℕ
case_mark_of r none c = nowhere
case_mark_of r (some s) none = nowhere
case_mark_of r (some s) (some c) = case_mark (suite_mark r) s

abbrev pub main_mark_of : Report → Option TestSuite → Option TestCase → ℕ
main_mark_of r none c = nowhere
main_mark_of r (some s) none = nowhere
main_mark_of r (some s) (some c) = cond (has_main c.status) (main_mark (case_mark (suite_mark r) s) c) nowhere

pub record Marked (b : Builder) (r : Report) : Type 0 where
  pub report : b.report ≡ 0
  pub suite : b.suite ≡ suite_mark_of r (last_in r.suites)
  pub case : b.case ≡ case_mark_of r (last_in r.suites) (open_case (last_in r.suites))
  pub main : b.main ≡ main_mark_of r (last_in r.suites) (open_case (last_in r.suites))

-- ---- the areas: the records of the report in their order, their texts anywhere among the texts, and zeros
pub record Stored (b : Builder) (words text : List ℕ) (r : Report) : Type 0 where
  pub placed : List Placed
  pub texts : List ℕ
  pub rows : rows_in placed ≡ rows_of r
  pub standing : Each (InTexts texts) placed
  pub sound : every fits_row (rows_of r) ≡ true
  pub valid : utf8 texts ≡ true
  pub clean : unfiltered texts ≡ true
  pub words_are : words ≡ laid (zeros (length words)) (joined (records_in placed))
  pub text-is : text ≡ laid (zeros (length text)) texts
  pub records : b.records ≡ length placed
  pub bytes : b.bytes ≡ length texts
  pub room : length placed ≤ room_for words
  pub text-room : length texts ≤ bytes_for text

-- rule B2
pub record Stands (b : Builder) (words text : List ℕ) (r : Report) : Type 0 where
  pub stored : Stored b words text r
  pub marks : Marked b r

-- ---- after the end nothing is open, whatever else the builder says (rule B12)
pub record Ended (b : Builder) : Type 0 where
  pub report : b.report ≡ nowhere
  pub suite : b.suite ≡ nowhere
  pub case : b.case ≡ nowhere
  pub main : b.main ≡ nowhere

-- the areas hold the finished report
pub record Finished (r : Report) (d : Draft) : Type 0 where
  pub means : Holds d.words d.text r
  pub ended : Ended d.builder

-- ---- what a call comes to: the first test that fails decides the refusal (rule B5); where none fails, Q holds of the draft
pub data Comes (Q : Draft → Type 0) : List (Bool × Cause) → Outcome Draft → Type 0 where
  gives : {d : Draft} → Q d → Comes Q [] (accepted d)
  passes : {why : Cause} {ts : List (Bool × Cause)} {o : Outcome Draft} → Comes Q ts o → Comes Q ((true, why) ∷ ts) o
  fails : {why : Cause} {ts : List (Bool × Cause)} → Comes Q ((false, why) ∷ ts) (refused (late why))

abbrev pub Stand : Report → Draft → Type 0
Stand r d = Stands d.builder d.words d.text r
