-- What the calls promise. Definitions only.
use Rattle.std.specs.Prelude.{ℕ, ◌-◌, ◌≡◌, Bool, true, false, not, Result, length}
use Rattle.read_repeats.specs.of_text.Value.{value_text}
use Rattle.read_repeats.specs.of_refusal.Refusal.{Outcome}
use Rattle.read_repeats.specs.of_table.Event.{Attribute, mark_at, key_at, attribute_at, attributes_from}
use Rattle.read_repeats.specs.of_read_element.Outcome.{Place, Rooms, need}
use Rattle.read_repeats.specs.of_read_element.Attributes.{Given, among, numbered}
use Rattle.read_repeats.specs.of_read_element.inside.Held.{keys_of, Held, Roomy}
use Rattle.read_repeats.specs.of_read_element.inside.Refines.{Table, Areas}
use Rattle.read_extras.specs.of_read_extra_record.declared.Given.{Given as Counted}
use Rattle.read_extras.specs.inside.Hinted.{Hinted}
use Rattle.read_attribute.specs.declared.Range.{Range}
use Rattle.read_fault.specs.declared.Fault.{Fault}
use Rattle.read_attribute.specs.inside.Steps.{by_key_of, Matches}
use Rattle.read_repeats.specs.of_refusal.declared.Cause.TheVariants as cause

-- reads attribute j by its key, which is good and isn't repeated
abbrev pub ReadsAttribute : ℕ → Attribute → ℕ → ℕ → Counted → Areas → Areas → Result Counted Fault → Type 0
ReadsAttribute kind x j hint given before after r =
    (g : Given) (rooms : Rooms) (p : Place) (used : ℕ)
    → Held before.records before.text given.extras given.fill g
    → Roomy rooms used (length before.records) (length before.text)
    → Hinted hint g (value_text x.key)
    → Matches p after.records after.text (by_key_of rooms (numbered p j) used kind x g) r

-- attribute j's key is among those of the range's attributes before it
abbrev pub repeated : Table → Range → ℕ → Bool
repeated table range j =
    among (key_at table.attributes table.source j) (keys_of (attributes_from table.attributes table.source (j - range.first) range.first))

-- what attribute j comes to: its mark (rule A2), then a repeated key (rule A3), then key and value
abbrev pub step_of : Rooms → Place → ℕ → ℕ → Table → Range → ℕ → Given → Outcome Given
step_of rooms p used kind table range j g =
    need (mark_at table.attributes j) (numbered p j) cause.FaultyAttribute
    (need (not (repeated table range j)) (numbered p j) cause.RepeatedKey
    (by_key_of rooms (numbered p j) used kind (attribute_at table.attributes table.source j) g))

-- reads attribute j of the range, or refuses it as faulty or repeated; `free` says that it isn't repeated
abbrev pub StepsAttribute : ℕ → Table → Range → Bool → ℕ → ℕ → Counted → Areas → Areas → Result Counted Fault → Type 0
StepsAttribute kind table range free hint j given before after r =
    (g : Given) (rooms : Rooms) (p : Place) (used : ℕ)
    → Held before.records before.text given.extras given.fill g
    → Roomy rooms used (length before.records) (length before.text)
    → (free ≡ true → repeated table range j ≡ false)
    → Hinted hint g (value_text (key_at table.attributes table.source j))
    → Matches p after.records after.text (step_of rooms p used kind table range j g) r
