-- What a step's calls do. Definitions only.
use Rattle.std.specs.Prelude.{Some, None, Ok, Err, ℕ, ◌+◌, ◌≤◌, ◌≡◌, List, [], true, ◌⊎◌, length}
use Rattle.read_actions.specs.of_table.Event.{Piece, bytes_at, piece_kind, piece_bytes}
use Rattle.read_actions.specs.of_read_element.Outcome.{Rooms}
use Rattle.read_actions.specs.of_read_attribute.declared.Range.{Range}
use Rattle.read_actions.specs.of_read_each.inside.Promises.{attributes_in}
use Rattle.read_actions.specs.of_read_state.Control.{status, at}
use Rattle.read_actions.specs.of_read_state.inside.Coded.{mode_of, act_of}
use Rattle.read_actions.specs.of_read_state.declared.Act.{Act as CodedAct}
use Rattle.read_actions.specs.of_read_state.declared.Act.TheVariants.{Close}
use Rattle.read_actions.specs.of_read_place.inside.Coded.{marks_of}
use Rattle.read_again.specs.of_read_path.Paths.{mode_path}
use Rattle.read_again.specs.of_read_path.inside.Coded.{has_room}
use Rattle.read_actions.specs.of_read_content.Content.{Content}
use Rattle.read_actions.specs.of_read_element.inside.Refines.{Table, Areas}
use Rattle.read_actions.specs.of_read_content.inside.Holds.{apt, Sized}
use Rattle.read_actions.specs.of_read_content.declared.Content.{Content as CodedContent}
use Rattle.read_again.specs.of_read_machine.Machine as machine
use Rattle.read_again.specs.of_read_machine.Machine.{Machine}
use Rattle.read_again.specs.Told.{told}
use Rattle.read_again.specs.inside.Turns.{rest}
use Rattle.read_again.specs.inside.Since.{Since, first_of}
use Rattle.read_step.specs.declared.State.{State}
use Rattle.read_step.specs.inside.Standing.{Step, machine_of, run_on_of, in_skip, run_skip, Stands, Acted, Stepped}

-- a whole table, and the three areas
abbrev pub given : (events attributes source : List ℕ) → Table
given events attributes source = record { events = events; attributes = attributes; source = source }

abbrev pub lent : (records text scratch : List ℕ) → Areas
lent records text scratch = record { records = records; text = text; scratch = scratch }

-- a piece of text of that event kind is read as the machine reads it
abbrev pub StepsPiece : State → (kind : ℕ) (bytes before after : List ℕ) → Step → Type 0
StepsPiece st kind bytes before after r =
    (rooms : Rooms) (words text attributes source : List ℕ) (c : Content)
    → Sized rooms (length words) (length text) (length before)
    → Stands attributes source words text before st.content (machine_of st c)
    → Acted attributes source words text after st (machine.step rooms (Piece (piece_kind kind) (piece_bytes kind bytes)) (machine_of st c)) r

-- the element that event `start` begins is passed over: the run in its skip comes to the same from behind it; a refusal there is told from a
-- state with the same path
abbrev pub StepsSkip : State → (start : ℕ) (events source : List ℕ) → Step → Type 0
StepsSkip st start events source r =
    (rooms : Rooms) (attributes words text scratch : List ℕ) (c : Content) (from : State) (s : Machine) → from.marks.event ≤ start
    → st.marks.event ≤ start + 1
    → mode_path (mode_of from.control) (marks_of from.marks) ≡ mode_path (mode_of st.control) (marks_of st.marks)
    → ((first : ℕ) → Since events attributes source first s → Since events attributes source (first_of first s) (in_skip (bytes_at events source start) (start + 1) (machine_of st c)))
    → Stands attributes source words text scratch st.content (machine_of st c)
    → Stepped rooms events attributes source words text scratch from s (run_skip rooms events attributes source start (machine_of st c)) r

-- an action is done with the attributes of a range as the machine does it
abbrev pub StepsAct : CodedAct → State → Range → Table → (before after : Areas) (scratch : List ℕ) → Step → Type 0
StepsAct act st range t before after scratch r =
    (rooms : Rooms) (c : Content) (name : List ℕ) → has_room (act_of st.control name act) ≡ true
    → (act ≡ Close → st.content.child ≡ st.content.description)
    → Sized rooms (length before.records) (length before.text) (length scratch)
    → Stands t.attributes t.source before.records before.text scratch st.content (machine_of st c)
    → Acted t.attributes t.source after.records after.text scratch st
    (machine.act rooms (act_of st.control name act) range.first (attributes_in t range) (machine_of st c)) r

-- where an act closes an element, no text of a child is open, and the description is what is told of the events from number `first` on
abbrev pub Again : CodedAct → Table → (first : ℕ) → Content → Type 0
Again act t first c =
    act ≡ Close → (c.gathered ≡ []) × ((c.description ≡ []) ⊎ (told (at status) (rest t.events t.attributes t.source first) ≡ c.description))

-- with some content the areas hold that of a state, of which that is known
pub record StandingAgain (act : CodedAct) (t : Table) (a : Areas) (first : ℕ) (st : State) : Type 0 where
  pub content : Content
  pub stands : Stands t.attributes t.source a.records a.text a.scratch st.content (machine_of st content)
  pub again : Again act t first content
  pub event : st.marks.event ≤ 65536

-- what scratch and a content hold before an act they hold with the content that is settled
abbrev pub Settles : CodedAct → (first : ℕ) (events source : List ℕ) → CodedContent → (before after : List ℕ) → CodedContent → Type 0
Settles act first events source k before after r =
    (attributes words text : List ℕ) (s : Machine) → apt act s.control.mode ≡ true → Again act (given events attributes source) first s.content
    → Stands attributes source words text before k s → Stands attributes source words text after r s

-- an action with a description that a child's text may have been put over is done so, too
abbrev pub StepsReady : CodedAct → State → (first : ℕ) → Range → Table → (before after : Areas) → Step → Type 0
StepsReady act st first range t before after r =
    (rooms : Rooms) (c : Content) (name : List ℕ) → has_room (act_of st.control name act) ≡ true
    → Again act t first c
    → Sized rooms (length before.records) (length before.text) (length before.scratch)
    → Stands t.attributes t.source before.records before.text before.scratch st.content (machine_of st c)
    → Acted t.attributes t.source after.records after.text after.scratch st
    (machine.act rooms (act_of st.control name act) range.first (attributes_in t range) (machine_of st c)) r

-- behind a Start `property` that was read as an Empty one its content is passed over; a refusal stays
abbrev pub PassesContent : Step → (start : ℕ) (events source : List ℕ) → Step → Type 0
PassesContent (Ok (Some st)) start events source r = StepsSkip st start events source r
PassesContent (Ok None) start events source r = r ≡ Ok None
PassesContent (Err h) start events source r = r ≡ Err h

-- with some content the areas hold that of a state, and its description is told from event `first` on
pub record StandingSince (t : Table) (a : Areas) (first : ℕ) (st : State) : Type 0 where
  pub content : Content
  pub stands : Stands t.attributes t.source a.records a.text a.scratch st.content (machine_of st content)
  pub since : Since t.events t.attributes t.source first (machine_of st content)
  pub event : st.marks.event ≤ 65536

-- one event, with what is skipped behind it, is read, and the run comes to the same
abbrev pub StepsEvent : State → (first : ℕ) → Table → (before after : Areas) → Step → Type 0
StepsEvent st first t before after r =
    (rooms : Rooms) (c : Content) → Since t.events t.attributes t.source first (machine_of st c)
    → Sized rooms (length before.records) (length before.text) (length before.scratch)
    → Stands t.attributes t.source before.records before.text before.scratch st.content (machine_of st c)
    → Stepped rooms t.events t.attributes t.source after.records after.text after.scratch st (machine_of st c)
    (run_on_of rooms t.events t.attributes t.source (machine_of st c)) r
