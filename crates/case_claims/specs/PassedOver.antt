-- The cases of a report, and the `testcase` tags that are no case of it: in a suite inside a suite, under an element that isn't known, outside
-- a suite, or of a report that a second one replaced (rules R3, R10 and R11). Definitions only.
use Rattle.std.specs.Prelude.{ℕ, ◌+◌, ◌-◌, ◌≡◌, List, [], ◌∷◌, length}
use Rattle.case_tags.specs.of_refusal.Refusal.{accepted}
use Rattle.case_tags.specs.of_table.Event.{Event}
use Rattle.read_report.specs.of_tree_report.Report.{TestSuite, Report}
use Rattle.read_report.specs.of_read_element.Outcome.{Rooms}
use Rattle.read_report.specs.Deserialize.{deserialize_in}
use Rattle.read_report.specs.Answer.{Table, Areas, events_of, answer_to}
use Rattle.case_tags.specs.Tags.{case_tags}

abbrev pub cases_in : List TestSuite → ℕ
cases_in [] = 0
cases_in (s ∷ ss) = length s.cases + cases_in ss

abbrev pub cases_of : Report → ℕ
cases_of r = cases_in r.suites

-- how many tags reading passes over (rule R21)
abbrev pub passed_over_of : List Event → Report → ℕ
passed_over_of es r = case_tags es - cases_of r

-- a report that reading gives has no more cases than there are tags, so that each tag is a case or is passed over
pub record CasesFromTags : Type 0 where
  pub events : (rooms : Rooms) (es : List Event) (r : Report) → deserialize_in rooms es ≡ accepted r → passed_over_of es r + cases_of r ≡ case_tags es
  pub tables : (t : Table) (a : Areas) (r : Report) → answer_to t a ≡ accepted r → passed_over_of (events_of t) r + cases_of r ≡ case_tags (events_of t)
