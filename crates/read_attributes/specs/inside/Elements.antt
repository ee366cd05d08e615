-- An element's answer, against the outcome of the definitions, and what the call promises. Definitions only.
use Rattle.std.specs.Prelude.{ℕ, ◌+◌, ◌-◌, ◌*◌, ◌≤◌, ◌<◌, ◌≡◌, List, ◌∷◌, ◌++◌, false, cond, not, ◌&&◌, ◌||◌, length, take, drop, leb, eqb, Result, Ok, Err}
use Rattle.read_all.specs.of_area.Area.{zeros}
use Rattle.read_all.specs.of_refusal.Refusal.{nowhere, Outcome}
use Rattle.read_all.specs.of_refusal.declared.Cause.{Cause}
use Rattle.read_all.specs.of_names.Names.{same_bytes}
use Rattle.read_all.specs.of_table.Event.{key_at}
use Rattle.read_all.specs.of_tree_record.Record.{has_bit}
use Rattle.read_all.specs.of_read_element.Outcome.{Place, Rooms}
use Rattle.read_all.specs.of_read_element.Attributes.{Given, Grown, read_element}
use Rattle.read_all.specs.of_read_element.inside.Held.{Held, Roomy}
use Rattle.read_all.specs.of_read_element.inside.Refines.{Refines, Table, Areas}
use Rattle.read_all.specs.of_read_each.inside.Promises.{attributes_in}
use Rattle.read_all.specs.of_read_attribute.declared.Range.{Range}
use Rattle.read_all.specs.of_read_fault.declared.Fault.{Fault}
use Rattle.read_attributes.specs.declared.Grown.{Grown as CodedGrown}
use Rattle.read_all.specs.of_read_attribute.inside.Steps.{fault_at}

abbrev pub fault_element : Cause → ℕ → ℕ → Result CodedGrown Fault
fault_element why key j = Err (record { cause = why; key = key; attribute = j })

-- the code of the first attribute that is missing, or 0
abbrev pub missing_of : ℕ → List ℕ → ℕ
missing_of kind r =
    cond ((leb 2 kind && leb kind 5) && not (has_bit 0 r)) 1
    (cond ((leb 4 kind && leb kind 5) && not (has_bit 1 r)) 14 0)

-- no two attributes of a range have the same key
abbrev pub Free : List ℕ → List ℕ → ℕ → ℕ → Type 0
Free attributes source first end = (i j : ℕ) → first ≤ i → i < j → j < end → same_bytes (key_at attributes source i) (key_at attributes source j) ≡ false

-- the range lies in the table and the keys of `known` are free of repeats; no record is there, and the texts take `fill` bytes
abbrev pub Vacant : Table → Range → Range → ℕ → Areas → Type 0
Vacant table range known fill a =
    (range.first ≤ range.end)
    × ((range.end * 5 ≤ length table.attributes)
    × ((range.end ≤ 65536)
    × ((fill ≤ length a.text)
    × ((length a.text ≤ 16777216)
    × ((a.records ≡ zeros (length a.records))
    × ((drop fill a.text ≡ zeros (length a.text - fill))
    × Free table.attributes table.source known.first known.end))))))

-- the range that is free of repeats behind an element: the one that was known, where no key was searched for
abbrev pub known_of : Range → Range → Range
known_of known range = cond (eqb range.first range.end || (leb known.first range.first && leb range.end known.end)) known range

-- the areas hold an element behind the records before it, and a range of attributes is free of repeats
pub data Grew (before : List (List ℕ)) (own text attributes source : List ℕ) : Grown → CodedGrown → Type 0 where
  grew : {g : Given} {e : CodedGrown} {extras : ℕ} → Held own text extras e.fill g → e.records ≡ extras + 1 → Free attributes source e.free.first e.free.end
      → Grew before own text attributes source (record { records = before ++ (g.main ∷ g.extras); texts = g.texts }) e

-- an element's answer and the areas are those of an outcome; `before` are the records before it
abbrev pub Becomes : Place → List (List ℕ) → (own text attributes source : List ℕ) → Outcome Grown → Result CodedGrown Fault → Type 0
Becomes p before own text attributes source = Refines Ok Err fault_at p (Grew before own text attributes source)

-- reads an element of this kind with the attributes of the range, behind any records and `fill` bytes of texts
abbrev pub ReadsElement : ℕ → Table → Range → ℕ → Areas → Areas → Result CodedGrown Fault → Type 0
ReadsElement kind table range fill before after r =
    (rooms : Rooms) (p : Place) (records : List (List ℕ))
    → p.attribute ≡ nowhere
    → Roomy rooms (length records) (length before.records) (length before.text)
    → Becomes p records after.records after.text table.attributes table.source
    (read_element rooms p kind range.first (attributes_in table range) records (take fill before.text)) r
