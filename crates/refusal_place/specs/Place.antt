-- The byte of a table's source where a refusal arose (rule F14). Definitions only.
use Rattle.std.specs.Prelude.{ℕ, zero, suc, ◌+◌, ◌≤◌, ◌<◌, ◌≡◌, List, Bool, cond, not, ◌&&◌, ◌⊎◌, leb, eqb, length, Ok}
use Rattle.table.specs.of_refusal.Refusal.{nowhere}
use Rattle.table.specs.Kinds as kind
use Rattle.table.specs.Table.{word, count_of, check_of}

-- word k of entry i; where word l of it is 0, or there is no such entry, what stands for it
abbrev pub entry_byte : List ℕ → ℕ → ℕ → ℕ → ℕ → ℕ → ℕ
entry_byte table i outside l empty k = cond (leb (count_of table) i) outside (cond (eqb (word table i l) 0) empty (word table i k))

-- where an attribute's value begins, or its key where the value is empty; none behind the table
abbrev pub attribute_byte : List ℕ → ℕ → ℕ
attribute_byte attributes j = entry_byte attributes j nowhere 4 (word attributes j 1) 3

-- where an event's bytes begin; of an event without bytes, as of the table's end, the end of a source of `size` bytes
abbrev pub event_byte : List ℕ → ℕ → ℕ → ℕ
event_byte events size i = entry_byte events i size 2 size 1

-- of n events from number i on, where the first begins that is a Start or Empty
unfoldable pub root_from : List ℕ → ℕ → ℕ → ℕ
root_from events zero i = nowhere
root_from events (suc n) i = cond (leb (word events i 0) kind.empty) (word events i 1) (root_from events n (i + 1))

abbrev pub root_byte : List ℕ → ℕ
root_byte events = root_from events (count_of events) 0

-- of a refusal with this event and attribute; `missing`: because there is no report, which is told at the root element, where there is one
unfoldable pub byte_of : Bool → ℕ → ℕ → List ℕ → List ℕ → ℕ → ℕ
byte_of missing event attribute events attributes size =
    cond (eqb attribute nowhere)
    (cond (missing && not (eqb (root_byte events) nowhere)) (root_byte events) (cond (eqb event nowhere) nowhere (event_byte events size event)))
    (attribute_byte attributes attribute)

-- a refusal names an attribute of the event that it names, or none (rule F6)
abbrev pub Named : List ℕ → ℕ → ℕ → Type 0
Named events event attribute =
    (attribute ≡ nowhere) ⊎ ((event < count_of events) × (word events event 3 ≤ attribute) × (attribute < word events event 3 + word events event 4))

-- in a table that refusal 11 lets pass the byte is one of the source, or its end
pub record InSource : Type 0 where
  pub byte : (missing : Bool) (event attribute : ℕ) (events attributes source : List ℕ) → check_of events attributes source ≡ Ok tt → Named events event attribute →
      (byte_of missing event attribute events attributes (length source) ≡ nowhere) ⊎ (byte_of missing event attribute events attributes (length source) ≤ length source)
