-- What holds between events, and what an event comes to. Definitions only.
use Rattle.std.specs.Prelude.{Option, Some, None, Result, Ok, Err, ℕ, ◌+◌, ◌-◌, ◌*◌, ◌%◌, ◌≤◌, ◌<◌, ◌≡◌, List, [], ◌++◌, false, length}
use Rattle.read_actions.specs.of_area.Area.{zeros}
use Rattle.read_actions.specs.of_utf8.Characters.{joined}
use Rattle.read_actions.specs.of_refusal.Refusal.{nowhere, Refused, Outcome, accepted, refused}
use Rattle.read_actions.specs.of_refusal.declared.Cause.{Cause}
use Rattle.read_actions.specs.of_table.Table.{count_of}
use Rattle.read_actions.specs.of_table.Event.{bytes_at, resolve_from}
use Rattle.read_actions.specs.of_read_element.Outcome.{Rooms}
use Rattle.read_actions.specs.of_read_attribute.inside.Steps.{fault_at}
use Rattle.read_actions.specs.of_read_state.Control.{skipping, control, Act, turn}
use Rattle.read_actions.specs.of_tree_status.Status.{Few}
use Rattle.read_actions.specs.of_read_state.inside.Coded.{mode_of, control_of, act_of}
use Rattle.read_actions.specs.of_read_state.declared.Act.TheVariants.{Broken}
use Rattle.read_actions.specs.of_read_state.declared.Mode.TheVariants.{At}
use Rattle.read_actions.specs.of_read_state.declared.Level.TheVariants.{Top}
use Rattle.read_actions.specs.of_read_state.declared.Output.TheVariants.{Out}
use Rattle.read_again.specs.of_read_path.Paths.{path_of}
use Rattle.read_actions.specs.of_read_place.Marks.{marks_after, onward}
use Rattle.read_actions.specs.of_read_place.inside.Coded.{marks_of, go_to, Low}
use Rattle.read_actions.specs.of_read_content.Content.{Content}
use Rattle.read_actions.specs.of_read_content.inside.Holds.{Holds, Lists, no_content}
use Rattle.read_actions.specs.of_read_content.declared.Content.{Content as CodedContent}
use Rattle.read_again.specs.of_read_machine.Machine.{Machine, run}
use Rattle.read_again.specs.inside.Since.{Since, first_of}
use Rattle.read_step.specs.declared.State.{State}
use Rattle.read_step.specs.declared.Halt.{Halt}

-- ---- between events
-- the machine of a state with a content
abbrev pub machine_of : State → Content → Machine
machine_of st c = record { control = control_of st.control; content = c; marks = marks_of st.marks }

-- the areas hold a machine's content, and its indices and counts are at most the number of the event that it stands at
pub record Stands (attributes source words text scratch : List ℕ) (k : CodedContent) (s : Machine) : Type 0 where
  pub holds : Holds words text scratch attributes source k s.content
  pub lists : Lists s.control.mode s.marks k s.content
  pub low : Low s.marks.event s.marks
  pub few : Few s.marks.event s.control.tally

-- with some content the areas hold that of a state, at an event of a table
pub record Standing (attributes source words text scratch : List ℕ) (st : State) : Type 0 where
  pub content : Content
  pub stands : Stands attributes source words text scratch st.content (machine_of st content)
  pub event : st.marks.event ≤ 65536

-- scratch has so many bytes, and the texts that are gathered lie in it
pub record Bounded (st : State) (scratch : ℕ) : Type 0 where
  pub description : st.content.description ≤ scratch
  pub child : st.content.child + st.content.gathered ≤ scratch
  pub event : st.marks.event ≤ 65536

-- no more words and bytes than are used of the areas (rule M1)
pub record Lent (words text scratch : ℕ) : Type 0 where
  pub of-records : words % 32 ≡ 0
  pub of_words : words ≤ 2097152
  pub of-text : text ≤ 16777216
  pub of-scratch : scratch ≤ 16777216

-- the attributes from number `first` to before number `end` lie in a table of so many words
pub record Spans (words first end : ℕ) : Type 0 where
  pub low : first ≤ end
  pub high : end * 5 ≤ words
  pub most : end ≤ 65536

-- before the first event
abbrev pub nothing : Content
nothing = record { records = []; texts = []; description = []; gathered = [] }

abbrev pub beginning : State
beginning =
    record {
      control = record { mode = At; level = Top; output = Out; seen = false; closed = false; tally = record { mains = 0; main = 0; flaky = 0; reruns = 0 } };
      marks = record { event = 0; suite_index = 0; suite_start = 0; case_index = 0; case_start = 0; status_kind = 0; property_index = 0; suite_at = 0; case_at = 0; status_at = 0 };
      content = no_content;
    }

-- the machine behind an action, its content being the new one; `used` records stood before it
abbrev pub after : Act → ℕ → Machine → Machine
after a used s = record { control = turn a s.control; content = s.content; marks = onward (marks_after a used s.marks) }

-- the run from the event on that the machine stands at
abbrev pub run_on_of : Rooms → List ℕ → List ℕ → List ℕ → Machine → Outcome Machine
run_on_of rooms events attributes source s = run rooms (resolve_from events attributes source (count_of events - s.marks.event) s.marks.event) s

-- the machine in a skip of that name, at that event
abbrev pub in_skip : List ℕ → ℕ → Machine → Machine
in_skip name i s =
    record {
      control = control (skipping s.control.mode name 0) s.control.seen s.control.closed s.control.tally;
      content = s.content;
      marks = go_to i s.marks;
    }

-- the run in the skip of the element that event i begins
abbrev pub run_skip : Rooms → List ℕ → List ℕ → List ℕ → ℕ → Machine → Outcome Machine
run_skip rooms events attributes source i s = run rooms (resolve_from events attributes source (count_of events - (i + 1)) (i + 1)) (in_skip (bytes_at events source i) (i + 1) s)

-- what a step comes to: the state behind it, none at the end, or a refusal
abbrev pub Step : Type 0
Step = Result (Option State) Halt

-- ---- refusals
-- the refusal of a halt in a state; a skipped tag has a name
abbrev pub refusal_at : State → Halt → List ℕ → Refused
refusal_at st h name = fault_at (record { path = path_of (act_of st.control name h.act) (mode_of st.control) (marks_of st.marks); event = h.event; attribute = nowhere }) h.fault

-- with the path of where reading stands
abbrev pub halt_at : ℕ → Cause → Step
halt_at event why = Err (record { act = Broken why; event = event; fault = record { cause = why; key = 0; attribute = nowhere } })

-- the path of a halt has room for an Attribute
pub record Placed (st : State) (h : Halt) : Type 0 where
  pub name : List ℕ
  pub room : length (path_of (act_of st.control name h.act) (mode_of st.control) (marks_of st.marks)) ≤ 5
  pub event : h.event ≤ 65536

pub record Refuses (st : State) (h : Halt) (o : Outcome Machine) : Type 0 where
  pub placed : Placed st h
  pub same : o ≡ refused (refusal_at st h placed.name)

-- ---- one step of the machine, which came to o
-- it goes on at the event behind event i
pub record Moved (attributes source words text scratch : List ℕ) (i : ℕ) (o : Outcome Machine) (st : State) : Type 0 where
  pub content : Content
  pub same : o ≡ accepted (machine_of st content)
  pub stands : Stands attributes source words text scratch st.content (machine_of st content)
  pub next : st.marks.event ≡ i + 1

abbrev pub Acted : (attributes source words text scratch : List ℕ) → State → Outcome Machine → Step → Type 0
Acted attributes source words text scratch st o (Ok (Some s)) = Moved attributes source words text scratch st.marks.event o s
Acted attributes source words text scratch st o (Ok None) = ⊥
Acted attributes source words text scratch st o (Err h) = Refuses st h o

-- ---- the run, which comes to o
-- it goes on at an event behind event i, and what machine s knew of an open description is known there
pub record Went (rooms : Rooms) (events attributes source words text scratch : List ℕ) (i : ℕ) (s : Machine) (o : Outcome Machine) (st : State) : Type 0 where
  pub content : Content
  pub since : (first : ℕ) → Since events attributes source first s → Since events attributes source (first_of first s) (machine_of st content)
  pub same : o ≡ run_on_of rooms events attributes source (machine_of st content)
  pub stands : Stands attributes source words text scratch st.content (machine_of st content)
  pub later : i < st.marks.event
  pub within : st.marks.event ≤ count_of events

-- it ends, and the areas hold what it gives
pub record Ended (words text : List ℕ) (o : Outcome Machine) : Type 0 where
  pub machine : Machine
  pub same : o ≡ accepted machine
  pub room : ℕ
  pub left : ℕ
  pub records : words ≡ joined machine.content.records ++ zeros room
  pub texts : text ≡ machine.content.texts ++ zeros left

abbrev pub Stepped : (rooms : Rooms) (events attributes source words text scratch : List ℕ) → State → Machine → Outcome Machine → Step → Type 0
Stepped rooms events attributes source words text scratch st s o (Ok (Some t)) = Went rooms events attributes source words text scratch st.marks.event s o t
Stepped rooms events attributes source words text scratch st s o (Ok None) = Ended words text o
Stepped rooms events attributes source words text scratch st s o (Err h) = Refuses st h o
