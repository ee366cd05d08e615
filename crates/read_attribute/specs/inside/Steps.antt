-- An attribute's answer, against the outcome of the definitions. Definitions only.
use Rattle.std.specs.Prelude.{ℕ, List, Result, Ok, Err}
use Rattle.read_repeats.specs.of_refusal.Refusal.{Refused, Outcome}
use Rattle.read_repeats.specs.of_names.Keys.{key_of}
use Rattle.read_repeats.specs.of_table.Event.{Attribute}
use Rattle.read_repeats.specs.of_read_keys.Roles.{role_of}
use Rattle.read_repeats.specs.of_read_element.Outcome.{Place, Rooms, path_to}
use Rattle.read_repeats.specs.of_read_element.Attributes.{Given, by_role}
use Rattle.read_repeats.specs.of_read_element.inside.Held.{Held}
use Rattle.read_repeats.specs.of_read_element.inside.Refines.{Refines}
use Rattle.read_extras.specs.of_read_extra_record.declared.Given.{Given as Counted}
use Rattle.read_repeats.specs.of_refusal.declared.Cause.{Cause}
use Rattle.read_fault.specs.inside.Faults.{fault_of}
use Rattle.read_fault.specs.declared.Fault.{Fault}

abbrev pub taken_step : Result ℕ Cause → Counted → ℕ → ℕ → Result Counted Fault
taken_step (Ok fill) given key j = Ok (record { extras = given.extras; fill = fill })
taken_step (Err why) given key j = Err (fault_of why key j)

-- what is refused in an extra has the element's path alone (rule A11)
abbrev pub gave_step : Result Counted Cause → ℕ → Result Counted Fault
gave_step (Ok given) j = Ok given
gave_step (Err why) j = Err (fault_of why 0 j)

abbrev pub fault_at : Place → Fault → Refused
fault_at p f = record { cause = f.cause; path = path_to p.path f.key; event = p.event; attribute = f.attribute }

-- an attribute's answer and the areas are those of an outcome; p is the element's place
abbrev pub Matches : Place → List ℕ → List ℕ → Outcome Given → Result Counted Fault → Type 0
Matches p own text = Refines Ok Err fault_at p (λ g given. Held own text given.extras given.fill g)

-- an attribute whose key is good and isn't repeated; p has its number
abbrev pub by_key_of : Rooms → Place → ℕ → ℕ → Attribute → Given → Outcome Given
by_key_of rooms p used kind x g = by_role rooms p used kind (key_of x.key) (role_of kind (key_of x.key)) x g
