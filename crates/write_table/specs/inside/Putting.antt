-- Items put one behind the other, as far as they have room: into the three areas of a table, or into one as XML. Definitions only.
use Rattle.std.specs.Prelude.{ℕ, ◌+◌, ◌-◌, ◌*◌, ◌≡◌, List, [], ◌∷◌, ◌++◌, Bool, cond, ◌&&◌, length, take, drop, leb, ltb, eqb, Option, Some, None}
use Rattle.write_spelled.specs.of_area.Area.{zeros, laid}
use Rattle.write_spelled.specs.of_area.Limits.{most_entries, most_bytes}
use Rattle.write_spelled.specs.of_table.Kinds as kind
use Rattle.write_table.specs.Laid.{Item, entry, pair, entry_words, pair_words}
use Rattle.write_table.specs.inside.Forms as form
use Rattle.write_table.specs.inside.Forms.{entry_text, key_text, value_text, form_behind, level_behind}

-- the areas with what is put into them: how many events, attributes and bytes are in use
pub record Held : Type 0 where
  pub events : ℕ
  pub attributes : ℕ
  pub bytes : ℕ
  pub event_area : List ℕ
  pub attribute_area : List ℕ
  pub byte_area : List ℕ

-- areas of so many words, words and bytes, with nothing in them
abbrev pub fresh : ℕ → ℕ → ℕ → Held
fresh e a b = record { events = 0; attributes = 0; bytes = 0; event_area = zeros e; attribute_area = zeros a; byte_area = zeros b }

-- in the XML form one area: how many bytes are in use, how many elements are open, and what stands before
pub record Spelling : Type 0 where
  pub form : ℕ
  pub level : ℕ
  pub bytes : ℕ
  pub byte_area : List ℕ

-- an area of so many bytes, with nothing in it
abbrev pub blank : ℕ → Spelling
blank n = record { form = form.free; level = 0; bytes = 0; byte_area = zeros n }

-- nothing is held once something didn't fit
pub data Kept : Type 0 where
  none : Kept
  some : Held → Kept
  xml : Spelling → Kept

abbrev pub over : List ℕ → ℕ → List ℕ → List ℕ
over area k f = take k area ++ laid (drop k area) f

-- up to the limits (rule W13) there is room for one entry more, for n bytes more
abbrev pub table_room : ℕ → List ℕ → Bool
table_room used area = leb 5 (length area - used * 5)

abbrev pub byte_room : ℕ → ℕ → List ℕ → Bool
byte_room used n area = leb n (length area - used)

abbrev pub entry_limits : ℕ → ℕ → ℕ → ℕ → Bool
entry_limits events bytes attributes n = ltb events most_entries && (leb bytes most_bytes && leb (attributes + n) most_entries)

abbrev pub pair_limits : ℕ → ℕ → Bool
pair_limits attributes bytes = ltb attributes most_entries && leb bytes most_bytes

abbrev pub with_entry : Held → ℕ → List ℕ → ℕ → Held
with_entry h kind s n =
    record {
      events = h.events + 1;
      attributes = h.attributes;
      bytes = h.bytes + length s;
      event_area = over h.event_area (h.events * 5) (entry_words h.attributes h.bytes kind s n);
      attribute_area = h.attribute_area;
      byte_area = over h.byte_area h.bytes s;
    }

abbrev pub with_pair : Held → List ℕ → List ℕ → Held
with_pair h key value =
    record {
      events = h.events;
      attributes = h.attributes + 1;
      bytes = h.bytes + length (key ++ value);
      event_area = h.event_area;
      attribute_area = over h.attribute_area (h.attributes * 5) (pair_words h.bytes key value);
      byte_area = over h.byte_area h.bytes (key ++ value);
    }

-- an event needs room for its attributes within the limit, too
unfoldable pub put : Held → Item → Kept
put h (entry kind s n) =
    cond (entry_limits h.events (h.bytes + length s) h.attributes n && (table_room h.events h.event_area && byte_room h.bytes (length s) h.byte_area))
    (some (with_entry h kind s n)) none
put h (pair key value) =
    cond (pair_limits h.attributes (h.bytes + length (key ++ value)) && (table_room h.attributes h.attribute_area && byte_room h.bytes (length (key ++ value)) h.byte_area))
    (some (with_pair h key value)) none

-- a text more, with the form and the level behind it
abbrev pub with_text : Spelling → List ℕ → ℕ → ℕ → Spelling
with_text h f m n = record { form = m; level = n; bytes = h.bytes + length f; byte_area = over h.byte_area h.bytes f }

abbrev pub put_text : Spelling → List ℕ → ℕ → ℕ → Kept
put_text h f m n = cond (byte_room h.bytes (length f) h.byte_area) (xml (with_text h f m n)) none

-- no more elements are open than there are bytes, so that what fits isn't refused for its level
unfoldable pub spell : Spelling → Item → Kept
spell h (entry k s n) =
    cond (eqb k kind.start && leb most_bytes h.level) none (put_text h (entry_text h.form h.level k s) (form_behind h.form k) (level_behind h.level k))
spell h (pair key value) = put_text h (key_text key ++ value_text value) h.form h.level

unfoldable pub put_all : Kept → List Item → Kept
put_all s [] = s
put_all none (i ∷ is) = none
put_all (some h) (i ∷ is) = put_all (put h i) is
put_all (xml h) (i ∷ is) = put_all (spell h i) is

-- ---- the areas in the code's terms: the form, how many elements are open, events, attributes and bytes in use, which is None once
-- something didn't fit
pub record Areas : Type 0 where
  pub mark : Option ℕ
  pub form : ℕ
  pub level : ℕ
  pub events : ℕ
  pub attributes : ℕ
  pub event_area : List ℕ
  pub attribute_area : List ℕ
  pub byte_area : List ℕ

abbrev pub held_by_of : Option ℕ → Areas → Kept
held_by_of (Some b) t =
    cond (eqb t.form form.table)
    (some (record { events = t.events; attributes = t.attributes; bytes = b; event_area = t.event_area; attribute_area = t.attribute_area; byte_area = t.byte_area }))
    (xml (record { form = t.form; level = t.level; bytes = b; byte_area = t.byte_area }))
held_by_of None t = none

abbrev pub held : Areas → Kept
held t = held_by_of t.mark t

-- a call puts these items: s is what was kept before it, t behind it
pub record Wrote (s : Areas) (is : List Item) (t : Areas) : Type 0 where
  pub same : held t ≡ put_all (held s) is
