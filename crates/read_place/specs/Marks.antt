-- Where reading stands: event numbers, indices and records. Definitions only.
use Rattle.std.specs.Prelude.{ℕ, ◌+◌, Bool, cond}
use Rattle.read_state.specs.Control.{Act, pass, open_report, open_suite, open_case, open_status, close_suite, close_case, close_status, open_text, close_text, open_list, read_property, stop, missing, broken}

-- the event being read; index and Start of the open suite and case; the open status element's kind; the number of
-- properties read in the open list; the records of the open suite, case and status element
pub record Marks : Type 0 where
  pub event : ℕ
  pub suite_index_of : ℕ
  pub suite_start_of : ℕ
  pub case_index_of : ℕ
  pub case_start_of : ℕ
  pub status_kind_of : ℕ
  pub property_index_of : ℕ
  pub suite_at_of : ℕ
  pub case_at_of : ℕ
  pub status_at_of : ℕ

abbrev pub marks : (event suite_index_of suite_start_of case_index_of case_start_of status_kind_of property_index_of suite_at_of case_at_of status_at_of : ℕ) → Marks
marks e si ss ci cs sk pi sa ca ta =
    record { event = e; suite_index_of = si; suite_start_of = ss; case_index_of = ci; case_start_of = cs; status_kind_of = sk; property_index_of = pi; suite_at_of = sa; case_at_of = ca; status_at_of = ta }

abbrev pub more : Bool → ℕ → ℕ
more empty n = cond empty (n + 1) n

-- the marks behind an action, with the indices of rule F4; n records stood before it
unfoldable pub marks_after : Act → ℕ → Marks → Marks
marks_after (open_report e) n m = marks m.event 0 0 0 0 0 0 0 0 0
marks_after (open_suite e) n m = marks m.event (more e m.suite_index_of) m.event 0 0 0 0 n 0 0
marks_after (open_case e) n m = marks m.event m.suite_index_of m.suite_start_of (more e m.case_index_of) m.event 0 0 m.suite_at_of n 0
marks_after (open_status k e) n m = marks m.event m.suite_index_of m.suite_start_of m.case_index_of m.case_start_of k 0 m.suite_at_of m.case_at_of n
marks_after close_suite n m = marks m.event (m.suite_index_of + 1) m.suite_start_of m.case_index_of m.case_start_of 0 0 m.suite_at_of m.case_at_of 0
marks_after close_case n m = marks m.event m.suite_index_of m.suite_start_of (m.case_index_of + 1) m.case_start_of 0 0 m.suite_at_of m.case_at_of 0
marks_after (open_list l e) n m = marks m.event m.suite_index_of m.suite_start_of m.case_index_of m.case_start_of m.status_kind_of 0 m.suite_at_of m.case_at_of m.status_at_of
marks_after (read_property l e name) n m = marks m.event m.suite_index_of m.suite_start_of m.case_index_of m.case_start_of m.status_kind_of (m.property_index_of + 1) m.suite_at_of m.case_at_of m.status_at_of
marks_after (pass k) n m = m
marks_after close_status n m = m
marks_after (open_text l o) n m = m
marks_after (close_text l o) n m = m
marks_after stop n m = m
marks_after missing n m = m
marks_after (broken k) n m = m

-- the next event
abbrev pub onward : Marks → Marks
onward m = marks (m.event + 1) m.suite_index_of m.suite_start_of m.case_index_of m.case_start_of m.status_kind_of m.property_index_of m.suite_at_of m.case_at_of m.status_at_of
