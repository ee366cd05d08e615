-- What the calls that read all attributes of an element ask and promise. Definitions only.
use Rattle.std.specs.Prelude.{ℕ, ◌-◌, ◌*◌, ◌≤◌, List, [], length, take, Result}
use Rattle.read_free.specs.of_refusal.Refusal.{Outcome}
use Rattle.read_free.specs.of_table.Event.{Attribute, attributes_from}
use Rattle.read_free.specs.of_read_element.Outcome.{Place, Rooms}
use Rattle.read_free.specs.of_read_element.Attributes.{Given, read_attributes}
use Rattle.read_free.specs.of_read_element.inside.Held.{Held, Roomy}
use Rattle.read_free.specs.of_read_element.inside.Refines.{Table, Areas}
use Rattle.read_attribute.specs.declared.Range.{Range}
use Rattle.read_attribute.specs.inside.Steps.{Matches}
use Rattle.read_free.specs.inside.Unrepeated.{Unrepeated}
use Rattle.read_each.specs.inside.Fresh.{fresh}
use Rattle.read_attribute.specs.of_read_extra_record.declared.Given.{Given as Counted}
use Rattle.read_attribute.specs.of_read_fault.declared.Fault.{Fault}

-- the range lies in the table and repeats no key before number `clear`; of an element only the kind is there, and `fill` bytes of text
abbrev pub Begins : ℕ → Table → Range → ℕ → ℕ → Areas → Type 0
Begins kind table range clear fill a =
    (range.first ≤ range.end)
    × ((range.end * 5 ≤ length table.attributes)
    × ((range.end ≤ 65536)
    × ((length a.text ≤ 16777216)
    × (Held a.records a.text 0 fill (fresh kind (take fill a.text))
    × Unrepeated table.attributes table.source range.first clear))))

abbrev pub attributes_in : Table → Range → List Attribute
attributes_in table range = attributes_from table.attributes table.source (range.end - range.first) range.first

-- what the attributes of the range come to, behind the texts that are there
abbrev pub read_from : Rooms → Place → ℕ → ℕ → Table → Range → List ℕ → Outcome Given
read_from rooms p used kind table range texts = read_attributes rooms p used kind [] range.first (attributes_in table range) (fresh kind texts)

-- reads the attributes of the range, where no extra is there and the texts take `fill` bytes
abbrev pub ReadsAttributes : ℕ → Table → Range → ℕ → Areas → Areas → Result Counted Fault → Type 0
ReadsAttributes kind table range fill before after r =
    (rooms : Rooms) (p : Place) (used : ℕ)
    → Roomy rooms used (length before.records) (length before.text)
    → Matches p after.records after.text (read_from rooms p used kind table range (take fill before.text)) r

-- the same in the first words of an area, where there are enough: the room is that of the whole area
abbrev pub ReadsWithin : ℕ → Table → Range → ℕ → Areas → Areas → Result Counted Fault → Type 0
ReadsWithin kind table range fill before after r =
    (rooms : Rooms) (p : Place) (used whole : ℕ)
    → length before.records ≤ whole
    → Roomy rooms used whole (length before.text)
    → Matches p after.records after.text (read_from rooms p used kind table range (take fill before.text)) r
