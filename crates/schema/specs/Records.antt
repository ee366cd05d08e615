-- A record by a table: the fields that it shows, whether it is a layout's, and the words of given fields. Definitions only.
use Rattle.std.specs.Prelude.{ℕ, zero, suc, ◌+◌, ◌-◌, ◌*◌, ◌/◌, ◌%◌, ◌^◌, List, [], ◌∷◌, ◌++◌, Bool, true, false, cond, ◌&&◌, length, get_or, take, drop, leb, eqb}
use Rattle.std.proofs.Math.Option.{Option, none, some}
use Rattle.timestamp.specs.of_area.Area.{zeros}
use Rattle.text_filter.specs.of_utf8.Characters.{boundary}
use Rattle.timestamp.specs.Timestamp.{in_range}
use Rattle.timestamp.specs.declared.Moment.{Moment}
use Rattle.uuids.specs.declared.Words.{Words}
use Rattle.tree_record.specs.Record.{number_at}
use Rattle.schema.specs.Report.{Duration}
use Rattle.schema.specs.Schema.{Form, text, number, time, timestamp, uuid, flag, Presence, always, must, may, unkept}
use Rattle.schema.specs.Schema.{Row, width, behind, bit_of, after}

-- ---- the values
-- start and length in the text area
pub record Span : Type 0 where
  pub start : ℕ
  pub size : ℕ

-- a value of a form, with T for a text: a Span in a record, a text in a report
abbrev pub Of : Type 0 → Form → Type 0
Of T text = T
Of T number = ℕ
Of T time = Duration
Of T timestamp = Moment
Of T uuid = Words
Of T flag = Unit {0}

-- a field's value by its presence
abbrev pub Held : Presence → Type 0 → Type 0
Held always A = A
Held (must k) A = A
Held (may k) A = Option A
Held unkept A = Unit {0}

-- the fields of an element, row by row
abbrev pub Fields : Type 0 → List Row → Type 0
Fields T [] = Unit {0}
Fields T (x ∷ xs) = Held x.presence (Of T x.form) × Fields T xs

-- ---- the fields that a record shows
abbrev pub given : {A : Type 0} → Bool → A → Option A
given b a = cond b (some a) none

-- the presence bit k of word 1
abbrev pub is_set : ℕ → List ℕ → Bool
is_set k r = eqb (get_or r 1 0 / 2 ^ k % 2) 1

abbrev pub value_at : (t : Form) → List ℕ → ℕ → Of Span t
value_at text r o = record { start = get_or r o 0; size = get_or r (o + 1) 0 }
value_at number r o = number_at r o
value_at time r o = record { seconds = get_or r o 0; nanos = get_or r (o + 1) 0 }
value_at timestamp r o =
    record {
      year = get_or r o 0;
      month = get_or r (o + 1) 0;
      day = get_or r (o + 2) 0;
      hour = get_or r (o + 3) 0;
      minute = get_or r (o + 4) 0;
      second = get_or r (o + 5) 0;
      nanos = get_or r (o + 6) 0;
      offset = get_or r (o + 7) 0;
    }
value_at uuid r o = record { a = get_or r o 0; b = get_or r (o + 1) 0; c = get_or r (o + 2) 0; d = get_or r (o + 3) 0 }
value_at flag r o = tt

abbrev pub slot_at : (p : Presence) (t : Form) → List ℕ → ℕ → Held p (Of Span t)
slot_at always t r o = value_at t r o
slot_at (must k) t r o = value_at t r o
slot_at (may k) t r o = given (is_set k r) (value_at t r o)
slot_at unkept t r o = tt

abbrev pub fields_at : (xs : List Row) → List ℕ → Fields Span xs
fields_at [] r = tt
fields_at (x ∷ xs) r = (slot_at x.presence x.form r x.word, fields_at xs r)

-- ---- the layout (rules M8 and M10)
-- a text ends within the texts, and its ends are no middle of a character; a count or a UUID may be anything
abbrev pub good_value : List ℕ → (t : Form) → Of Span t → Bool
good_value texts text v = leb (v.start + v.size) (length texts) && (boundary texts v.start && boundary texts (v.start + v.size))
good_value texts number v = true
good_value texts time v = leb v.seconds 8388607 && leb v.nanos 999999999
good_value texts timestamp v = in_range v
good_value texts uuid v = true
good_value texts flag v = true

abbrev pub all_zero : List ℕ → Bool
all_zero [] = true
all_zero (w ∷ ws) = eqb w 0 && all_zero ws

-- n words from word o on are zero
abbrev pub zero_at : List ℕ → ℕ → ℕ → Bool
zero_at r o n = all_zero (take n (drop o r))

-- present with good words, or absent with words of zero
abbrev pub good_slot : List ℕ → List ℕ → Presence → Form → ℕ → Bool
good_slot texts r always t o = good_value texts t (value_at t r o)
good_slot texts r (must k) t o = is_set k r && good_value texts t (value_at t r o)
good_slot texts r (may k) t o = cond (is_set k r) (good_value texts t (value_at t r o)) (zero_at r o (width t))
good_slot texts r unkept t o = true

-- from word n on: zero up to each row's words, the rows' words good, zero behind them
abbrev pub good_from : List ℕ → List ℕ → ℕ → List Row → Bool
good_from texts r n [] = zero_at r n (32 - n)
good_from texts r n (x ∷ xs) =
    zero_at r n (x.word - n) && (good_slot texts r x.presence x.form x.word && good_from texts r (behind x) xs)

abbrev pub bit_value : Option ℕ → List ℕ → ℕ
bit_value none r = 0
bit_value (some k) r = cond (is_set k r) (2 ^ k) 0

-- what the rows' bits come to
abbrev pub bits_in : List Row → List ℕ → ℕ
bits_in [] r = 0
bits_in (x ∷ xs) r = bit_value (bit_of x.presence) r + bits_in xs r

-- no presence bits but the rows' are set
unfoldable pub good : List Row → List ℕ → List ℕ → Bool
good xs texts r = eqb (get_or r 1 0) (bits_in xs r) && good_from texts r 2 xs

-- ---- the words of given fields
-- a count is its low word, then its high word
abbrev pub words_of : (t : Form) → Of Span t → List ℕ
words_of text v = v.start ∷ v.size ∷ []
words_of number v = v % 4294967296 ∷ v / 4294967296 ∷ []
words_of time v = v.seconds ∷ v.nanos ∷ []
words_of timestamp v = v.year ∷ v.month ∷ v.day ∷ v.hour ∷ v.minute ∷ v.second ∷ v.nanos ∷ v.offset ∷ []
words_of uuid v = v.a ∷ v.b ∷ v.c ∷ v.d ∷ []
words_of flag v = []

abbrev pub slot_words : (p : Presence) (t : Form) → Held p (Of Span t) → List ℕ
slot_words always t v = words_of t v
slot_words (must k) t v = words_of t v
slot_words (may k) t none = zeros (width t)
slot_words (may k) t (some v) = words_of t v
slot_words unkept t v = []

-- from word n on
abbrev pub words_from : ℕ → (xs : List Row) → Fields Span xs → List ℕ
words_from n [] f = zeros (32 - n)
words_from n (x ∷ xs) f = zeros (x.word - n) ++ (slot_words x.presence x.form f.0 ++ words_from (behind x) xs f.1)

abbrev pub is_some : {A : Type 0} → Option A → Bool
is_some none = false
is_some (some a) = true

abbrev pub flags_of : List Bool → ℕ
flags_of [] = 0
flags_of (b ∷ bs) = cond b 1 0 + 2 * flags_of bs

abbrev pub present : (A : Type 0) (p : Presence) → Held p A → Bool
present A always v = true
present A (must k) v = true
present A (may k) v = is_some v
present A unkept v = false

abbrev pub unset : ℕ → List Bool
unset zero = []
unset (suc n) = false ∷ unset n

-- the presence bits from bit b on
abbrev pub marks_up_to : ℕ → Option ℕ → Bool → List Bool
marks_up_to b none p = []
marks_up_to b (some k) p = unset (k - b) ++ (p ∷ [])

abbrev pub marks_from : (T : Type 0) → ℕ → (xs : List Row) → Fields T xs → List Bool
marks_from T b [] f = []
marks_from T b (x ∷ xs) f =
    marks_up_to b (bit_of x.presence) (present (Of T x.form) x.presence f.0) ++ marks_from T (after b (bit_of x.presence)) xs f.1

-- the 32 words
unfoldable pub encode : ℕ → (xs : List Row) → Fields Span xs → List ℕ
encode kind xs f = kind ∷ flags_of (marks_from Span 0 xs f) ∷ words_from 2 xs f

-- the values are such as a layout may have
abbrev pub fits_slot : List ℕ → (p : Presence) (t : Form) → Held p (Of Span t) → Bool
fits_slot texts always t v = good_value texts t v
fits_slot texts (must k) t v = good_value texts t v
fits_slot texts (may k) t none = true
fits_slot texts (may k) t (some v) = good_value texts t v
fits_slot texts unkept t v = true

abbrev pub fits : List ℕ → (xs : List Row) → Fields Span xs → Bool
fits texts [] f = true
fits texts (x ∷ xs) f = fits_slot texts x.presence x.form f.0 && fits texts xs f.1
