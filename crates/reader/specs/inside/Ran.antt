-- What the run comes to. Definitions only.
use Rattle.std.specs.Prelude.{Result, Ok, Err, ℕ, List, length}
use Rattle.clearing.specs.of_refusal.Refusal.{Outcome}
use Rattle.read_step.specs.of_table.Event.{resolve}
use Rattle.read_step.specs.of_read_element.Outcome.{rooms_of}
use Rattle.read_step.specs.of_read_element.inside.Refines.{Table, Areas}
use Rattle.read_step.specs.of_read_machine.Machine.{Machine, run, begin}
use Rattle.read_step.specs.of_read_machine.Reading.{reading}
use Rattle.read_step.specs.inside.Standing.{Refuses, Ended}
use Rattle.reader.specs.Answer.{Leaves}
use Rattle.reader.specs.declared.Reading.{Reading}
use Rattle.read_step.specs.declared.State.{State}
use Rattle.read_step.specs.declared.Halt.{Halt}

-- what the run answers: at a refusal the state and what is refused
abbrev pub Run : Type 0
Run = Result (Unit {0}) (State × Halt)

abbrev pub Ran : (words text : List ℕ) → Outcome Machine → Run → Type 0
Ran words text o (Ok t) = Ended words text o
Ran words text o (Err x) = Refuses x.0 x.1 o

-- the machine runs over a whole table, with the rooms of the areas
abbrev pub Runs : Table → (before after : Areas) → Run → Type 0
Runs t before after r =
    Ran after.records after.text
    (run (rooms_of (length before.records) (length before.text) (length before.scratch)) (resolve t.events t.attributes t.source) begin) r

-- the answer and the areas are those that `reading` gives
abbrev pub Reads : Table → (before after : Areas) → Reading → Type 0
Reads t before after r =
    Leaves r after.records after.text after.scratch
    (reading t.events t.attributes t.source (length before.records) (length before.text) (length before.scratch))
