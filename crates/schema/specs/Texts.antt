-- Fields with texts against fields with places in the text area. Definitions only.
use Rattle.std.specs.Prelude.{ℕ, ◌+◌, List, [], ◌∷◌, ◌++◌, Bool, true, ◌&&◌, ◌≡◌, length, take, drop, leb}
use Rattle.std.proofs.Math.Option.{none, some}
use Rattle.text_filter.specs.of_utf8.Utf8.{utf8}
use Rattle.text_filter.specs.Filter.{unfiltered}
use Rattle.timestamp.specs.Timestamp.{in_range}
use Rattle.schema.specs.Report.{Text}
use Rattle.schema.specs.Schema.{Form, text, number, time, timestamp, uuid, flag, Presence, always, must, may, unkept, Row}
use Rattle.schema.specs.Records.{Span, Of, Held, Fields, given, is_set, value_at, encode}

-- ---- reading
-- a text is its start and its length in the text area
abbrev pub read_value : List ℕ → (t : Form) → Of Span t → Of Text t
read_value texts text v = take v.size (drop v.start texts)
read_value texts number v = v
read_value texts time v = v
read_value texts timestamp v = v
read_value texts uuid v = v
read_value texts flag v = v

abbrev pub read_slot : List ℕ → (p : Presence) (t : Form) → Held p (Of Span t) → Held p (Of Text t)
read_slot texts always t v = read_value texts t v
read_slot texts (must k) t v = read_value texts t v
read_slot texts (may k) t none = none
read_slot texts (may k) t (some v) = some (read_value texts t v)
read_slot texts unkept t v = v

abbrev pub read_all : List ℕ → (xs : List Row) → Fields Span xs → Fields Text xs
read_all texts [] f = tt
read_all texts (x ∷ xs) f = (read_slot texts x.presence x.form f.0, read_all texts xs f.1)

-- what a record shows
abbrev pub shown_slot : List ℕ → (p : Presence) (t : Form) → List ℕ → ℕ → Held p (Of Text t)
shown_slot texts always t r o = read_value texts t (value_at t r o)
shown_slot texts (must k) t r o = read_value texts t (value_at t r o)
shown_slot texts (may k) t r o = given (is_set k r) (read_value texts t (value_at t r o))
shown_slot texts unkept t r o = tt

abbrev pub fields_of : (xs : List Row) → List ℕ → List ℕ → Fields Text xs
fields_of [] texts r = tt
fields_of (x ∷ xs) texts r = (shown_slot texts x.presence x.form r x.word, fields_of xs texts r)

-- ---- storing
-- what a value adds to the text area
abbrev pub stored_value : (t : Form) → Of Text t → List ℕ
stored_value text v = v
stored_value number v = []
stored_value time v = []
stored_value timestamp v = []
stored_value uuid v = []
stored_value flag v = []

abbrev pub stored : (p : Presence) (t : Form) → Held p (Of Text t) → List ℕ
stored always t v = stored_value t v
stored (must k) t v = stored_value t v
stored (may k) t none = []
stored (may k) t (some v) = stored_value t v
stored unkept t v = []

-- the texts of the fields, one behind the other
abbrev pub stored_in : (xs : List Row) → Fields Text xs → List ℕ
stored_in [] f = []
stored_in (x ∷ xs) f = stored x.presence x.form f.0 ++ stored_in xs f.1

-- a value whose text, if it is one, starts at byte fill
abbrev pub place_value : ℕ → (t : Form) → Of Text t → Of Span t
place_value fill text v = record { start = fill; size = length v }
place_value fill number v = v
place_value fill time v = v
place_value fill timestamp v = v
place_value fill uuid v = v
place_value fill flag v = v

abbrev pub place_slot : ℕ → (p : Presence) (t : Form) → Held p (Of Text t) → Held p (Of Span t)
place_slot fill always t v = place_value fill t v
place_slot fill (must k) t v = place_value fill t v
place_slot fill (may k) t none = none
place_slot fill (may k) t (some v) = some (place_value fill t v)
place_slot fill unkept t v = v

-- the texts one behind the other, from byte fill on
abbrev pub placed_at : ℕ → (xs : List Row) → Fields Text xs → Fields Span xs
placed_at fill [] f = tt
placed_at fill (x ∷ xs) f =
    (place_slot fill x.presence x.form f.0, placed_at (fill + length (stored x.presence x.form f.0)) xs f.1)

-- ---- what fits a layout (rule M9): a text is UTF-8 without filtered characters, times are in their ranges, a word has 32 bits
abbrev pub sound_value : (t : Form) → Of Text t → Bool
sound_value text v = utf8 v && unfiltered v
sound_value number v = leb v 18446744073709551615
sound_value time v = leb v.seconds 8388607 && leb v.nanos 999999999
sound_value timestamp v = in_range v
sound_value uuid v = leb v.a 4294967295 && (leb v.b 4294967295 && (leb v.c 4294967295 && leb v.d 4294967295))
sound_value flag v = true

abbrev pub sound_slot : (p : Presence) (t : Form) → Held p (Of Text t) → Bool
sound_slot always t v = sound_value t v
sound_slot (must k) t v = sound_value t v
sound_slot (may k) t none = true
sound_slot (may k) t (some v) = sound_value t v
sound_slot unkept t v = true

abbrev pub sound : (xs : List Row) → Fields Text xs → Bool
sound [] f = true
sound (x ∷ xs) f = sound_slot x.presence x.form f.0 && sound xs f.1

-- the record of an element's fields, with so many bytes of texts before
unfoldable pub record_at : ℕ → ℕ → (xs : List Row) → Fields Text xs → List ℕ
record_at kind fill xs f = encode kind xs (placed_at fill xs f)

-- the texts s stand in the text area from byte fill on, with whole characters behind them
abbrev pub StandAt : List ℕ → ℕ → List ℕ → List ℕ → List ℕ → Type 0
StandAt texts fill before s after = (texts ≡ before ++ (s ++ after)) × (length before ≡ fill) × (utf8 after ≡ true)
