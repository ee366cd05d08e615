-- The code's marks in the words of Marks.antt, and what bounds them. Definitions only.
use Rattle.std.specs.Prelude.{ℕ, ◌≤◌}
use Rattle.read_place.specs.Marks.{Marks, marks}
use Rattle.read_place.specs.declared.Marks.{Marks as CodedMarks}

abbrev pub marks_of : CodedMarks → Marks
marks_of m = marks m.event m.suite_index m.suite_start m.case_index m.case_start m.status_kind m.property_index m.suite_at m.case_at m.status_at

-- reading goes on at that event; `onward` goes to the next
abbrev pub go_to : ℕ → Marks → Marks
go_to e m = marks e m.suite_index_of m.suite_start_of m.case_index_of m.case_start_of m.status_kind_of m.property_index_of m.suite_at_of m.case_at_of m.status_at_of

-- so many properties of the open list were read
abbrev pub counting : ℕ → Marks → Marks
counting n m = marks m.event m.suite_index_of m.suite_start_of m.case_index_of m.case_start_of m.status_kind_of n m.suite_at_of m.case_at_of m.status_at_of

-- event number and indices are at most n: each event raises an index by at most one, and a table has at most 65,536 events
pub record Low (n : ℕ) (m : Marks) : Type 0 where
  pub event : m.event ≤ n
  pub suite_index_of : m.suite_index_of ≤ n
  pub case_index_of : m.case_index_of ≤ n
  pub property_index_of : m.property_index_of ≤ n
