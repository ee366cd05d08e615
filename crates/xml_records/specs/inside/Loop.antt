-- The invariant of the loop over a source's bytes. Definitions only.
use Rattle.std.specs.Prelude.{ℕ, ◌≤◌, ◌≡◌, List, length, get_or, drop}
use Rattle.xml_rep.specs.of_xml_machine.State.{State, fresh}
use Rattle.xml_rep.specs.of_xml_machine.Machine.{step}
use Rattle.xml_rep.specs.of_xml_machine.Tokens.{Marks, no_marks, Kept, nothing_kept, rooms, records}
use Rattle.xml_rep.specs.of_xml_stack.Stack.{Range}
use Rattle.xml_rep.specs.of_xml_state.declared.State.{State as Registers}
use Rattle.xml_rep.specs.of_xml_state.inside.Rows.{move_of}
use Rattle.xml_rep.specs.inside.Agree.{Agree}
use Rattle.xml_records.specs.inside.Holding.{Stands}

-- behind `at` bytes the definition goes on as from the start; the areas have so many words
pub record At (src : List ℕ) (words wide at : ℕ) (st : Registers) (events attributes : List ℕ) : Type 0 where
  pub within : at ≤ length src
  pub short : length src ≤ 16777216
  pub long : length events ≡ words
  pub broad : length attributes ≡ wide
  pub state : State
  pub marks : Marks
  pub kept : Kept
  pub names : List Range
  pub stands : Stands src at st state marks kept names events attributes
  pub same : records src fresh 0 (rooms words wide) no_marks nothing_kept ≡ records (drop at src) state at (rooms words wide) marks kept

-- the code's move at this byte agrees with the definition's step
abbrev pub Moves : {src : List ℕ} {words wide at : ℕ} {st : Registers} {events attributes : List ℕ} → At src words wide at st events attributes → Type 0
Moves {src} {words} {wide} {at} {st} {events} {attributes} a =
    Agree src at st a.marks (length a.kept.attributes) a.names (move_of st.mode (get_or src at 0)) (step a.state (get_or src at 0))
