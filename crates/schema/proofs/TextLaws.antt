-- Texts that stand in the text area one behind the other are read back, and their ends are good. Assumes nothing.
use Prim.Native.Nat.{ℕ, ◌+◌}
use mathlib.Core.Bool.{Bool, true, false, ◌&&◌}
use mathlib.Core.List.{List, [], ◌∷◌, ◌++◌, append_assoc}
use mathlib.Core.Option.{Option, none, some}
use mathlib.Core.Path.{◌≡◌, refl, sym, ap, ap₂, ◌∙◌}
use native.Mathlib.Omega.{arith}
use borrow.Author.Tests.{le-leb}
use lib.Dec.{leb}
use lib.ListN.{length, take, drop, length-append}
use lib.Seq.{take_at, drop-append_seam}
use Rattle.text_filter.proofs.of_utf8.Boundaries.{boundary-append}
use Rattle.text_filter.proofs.of_utf8.Rules.{utf8_append}
use Rattle.text_filter.specs.of_utf8.Characters.{boundary}
use Rattle.text_filter.specs.of_utf8.Utf8.{utf8}
use Rattle.text_filter.specs.Filter.{unfiltered}
use Rattle.schema.specs.Report.{Text}
use Rattle.schema.specs.Records.{given}
use Rattle.schema.proofs.Tests.{both, and_left, and_right}
use Rattle.schema.specs.Schema.{Form, text, number, time, timestamp, uuid, flag, Presence, always, must, may, unkept, Row, fine}
use Rattle.schema.specs.Records.{Span, Of, Held, Fields, is_set, value_at, slot_at, fields_at, good_value, good, fits_slot, fits, encode}
use Rattle.schema.specs.Texts.{read_value, read_slot, read_all, shown_slot, fields_of, stored_value, stored, stored_in, place_value, place_slot, placed_at, sound_value, sound_slot, sound, record_at, StandAt}
use Rattle.schema.proofs.Laws.{decode-encode, good-encode}

-- a record's fields are those of its words, with the texts read
given-read : (texts : List ℕ) (k : ℕ) (t : Form) (b : Bool) (v : Of Span t) → given b (read_value texts t v) ≡ read_slot texts (may k) t (given b v)
given-read texts k t true v = refl
given-read texts k t false v = refl

slot_read : (texts : List ℕ) (p : Presence) (t : Form) (r : List ℕ) (o : ℕ) → shown_slot texts p t r o ≡ read_slot texts p t (slot_at p t r o)
slot_read texts always t r o = refl
slot_read texts (must k) t r o = refl
slot_read texts (may k) t r o = given-read texts k t (is_set k r) (value_at t r o)
slot_read texts unkept t r o = refl

pub fields_read : (xs : List Row) (texts r : List ℕ) → fields_of xs texts r ≡ read_all texts xs (fields_at xs r)
fields_read [] texts r = refl
fields_read (x ∷ xs) texts r = λ i. (slot_read texts x.presence x.form r x.word i, fields_read xs texts r i)

-- ---- a text between others
module _ (b t u : List ℕ) where
  text-between : (z : List ℕ) → take (length t) (drop (length b) ((b ++ (t ++ u)) ++ z)) ≡ t
  text-between z = rw (append_assoc b (t ++ u) z, append_assoc t u z, drop-append_seam b (t ++ (u ++ z))) (take_at t (u ++ z) (length t) refl)

  good-between : utf8 t ≡ true → utf8 u ≡ true
      → (leb (length b + length t) (length (b ++ (t ++ u))) && (boundary (b ++ (t ++ u)) (length b) && boundary (b ++ (t ++ u)) (length b + length t))) ≡ true
  good-between h k =
      let n : length (b ++ (t ++ u)) ≡ length b + (length t + length u) = length-append b (t ++ u) ∙ ap (λ (n : ℕ). length b + n) (length-append t u) in
      let m : length (b ++ t) ≡ length b + length t = length-append b t in
      both (le-leb (length b + length t) (length (b ++ (t ++ u))) (omega arith))
      (both (boundary-append b (t ++ u) (utf8_append t u h ∙ k))
      (ap (λ (l : List ℕ). boundary l (length b + length t)) (sym (append_assoc b t u)) ∙ ap (boundary ((b ++ t) ++ u)) (sym m) ∙ boundary-append (b ++ t) u k))

module _ (texts b u z : List ℕ) (fill : ℕ) where
  value_read : (t : Form) (v : Of Text t) → StandAt texts fill b (stored_value t v) u → read_value (texts ++ z) t (place_value fill t v) ≡ v
  value_read text v h = rw (h.0, ← h.1) (text-between b v u z)
  value_read number v h = refl
  value_read time v h = refl
  value_read timestamp v h = refl
  value_read uuid v h = refl
  value_read flag v h = refl

  value-good : (t : Form) (v : Of Text t) → sound_value t v ≡ true → StandAt texts fill b (stored_value t v) u → good_value texts t (place_value fill t v) ≡ true
  value-good text v s h = rw (h.0, ← h.1) (good-between b v u (and_left (utf8 v) (unfiltered v) s) h.2)
  value-good number v s h = refl
  value-good time v s h = s
  value-good timestamp v s h = s
  value-good uuid v s h = refl
  value-good flag v s h = refl

  slot-back : (p : Presence) (t : Form) (v : Held p (Of Text t)) → StandAt texts fill b (stored p t v) u → read_slot (texts ++ z) p t (place_slot fill p t v) ≡ v
  slot-back always t v h = value_read t v h
  slot-back (must k) t v h = value_read t v h
  slot-back (may k) t none h = refl
  slot-back (may k) t (some v) h = ap (λ (x : Of Text t). some x) (value_read t v h)
  slot-back unkept t v h = refl

  slot-fits : (p : Presence) (t : Form) (v : Held p (Of Text t)) → sound_slot p t v ≡ true → StandAt texts fill b (stored p t v) u → fits_slot texts p t (place_slot fill p t v) ≡ true
  slot-fits always t v s h = value-good t v s h
  slot-fits (must k) t v s h = value-good t v s h
  slot-fits (may k) t none s h = refl
  slot-fits (may k) t (some v) s h = value-good t v s h
  slot-fits unkept t v s h = refl

utf8-value : (t : Form) (v : Of Text t) → sound_value t v ≡ true → utf8 (stored_value t v) ≡ true
utf8-value text v s = and_left (utf8 v) (unfiltered v) s
utf8-value number v s = refl
utf8-value time v s = refl
utf8-value timestamp v s = refl
utf8-value uuid v s = refl
utf8-value flag v s = refl

utf8-slot : (p : Presence) (t : Form) (v : Held p (Of Text t)) → sound_slot p t v ≡ true → utf8 (stored p t v) ≡ true
utf8-slot always t v s = utf8-value t v s
utf8-slot (must k) t v s = utf8-value t v s
utf8-slot (may k) t none s = refl
utf8-slot (may k) t (some v) s = utf8-value t v s
utf8-slot unkept t v s = refl

pub utf8-all : (xs : List Row) (f : Fields Text xs) → sound xs f ≡ true → utf8 (stored_in xs f) ≡ true
utf8-all [] f s = refl
utf8-all (x ∷ xs) f s =
    let a = and_left (sound_slot x.presence x.form f.0) (sound xs f.1) s in
    utf8_append (stored x.presence x.form f.0) (stored_in xs f.1) (utf8-slot x.presence x.form f.0 a)
    ∙ utf8-all xs f.1 (and_right (sound_slot x.presence x.form f.0) (sound xs f.1) s)

-- the first row's texts, and the others'
module _ (texts b u : List ℕ) (fill : ℕ) (x : Row) (xs : List Row) (f : Fields Text (x ∷ xs)) (s : sound (x ∷ xs) f ≡ true) (h : StandAt texts fill b (stored_in (x ∷ xs) f) u) where
  abbrev own : List ℕ
  own = stored x.presence x.form f.0

  sound-first : sound_slot x.presence x.form f.0 ≡ true
  sound-first = and_left (sound_slot x.presence x.form f.0) (sound xs f.1) s

  sound-rest : sound xs f.1 ≡ true
  sound-rest = and_right (sound_slot x.presence x.form f.0) (sound xs f.1) s

  lies-first : StandAt texts fill b own (stored_in xs f.1 ++ u)
  lies-first = (
    h.0 ∙ ap (λ (l : List ℕ). b ++ l) (append_assoc own (stored_in xs f.1) u),
    h.1,
    utf8_append (stored_in xs f.1) u (utf8-all xs f.1 sound-rest) ∙ h.2,
  )

  lies-rest : StandAt texts (fill + length own) (b ++ own) (stored_in xs f.1) u
  lies-rest = (lies-first.0 ∙ sym (append_assoc b own (stored_in xs f.1 ++ u)), length-append b own ∙ ap (λ (n : ℕ). n + length own) h.1, h.2)

pub all_back : (texts b u z : List ℕ) (fill : ℕ) (xs : List Row) (f : Fields Text xs) → sound xs f ≡ true → StandAt texts fill b (stored_in xs f) u → read_all (texts ++ z) xs (placed_at fill xs f) ≡ f
all_back texts b u z fill [] f s h = refl
all_back texts b u z fill (x ∷ xs) f s h =
    let own = stored x.presence x.form f.0 in
    let first = slot-back texts b (stored_in xs f.1 ++ u) z fill x.presence x.form f.0 (lies-first texts b u fill x xs f s h) in
    let rest = all_back texts (b ++ own) u z (fill + length own) xs f.1 (sound-rest texts b u fill x xs f s h) (lies-rest texts b u fill x xs f s h) in
    λ i. (first i, rest i)

pub all-fits : (texts b u : List ℕ) (fill : ℕ) (xs : List Row) (f : Fields Text xs) → sound xs f ≡ true → StandAt texts fill b (stored_in xs f) u → fits texts xs (placed_at fill xs f) ≡ true
all-fits texts b u fill [] f s h = refl
all-fits texts b u fill (x ∷ xs) f s h =
    let own = stored x.presence x.form f.0 in
    both (slot-fits texts b (stored_in xs f.1 ++ u) [] fill x.presence x.form f.0 (sound-first texts b u fill x xs f s h) (lies-first texts b u fill x xs f s h))
    (all-fits texts (b ++ own) u (fill + length own) xs f.1 (sound-rest texts b u fill x xs f s h) (lies-rest texts b u fill x xs f s h))

-- ---- the laws of a record with its texts, once for every table
module _ (xs : List Row) (fineness : fine xs ≡ true) (kind fill : ℕ) (f : Fields Text xs) (s : sound xs f ≡ true) (texts b u : List ℕ) (h : StandAt texts fill b (stored_in xs f) u) where
  -- the fields are read back, whatever stands behind the texts
  pub record-back : (z : List ℕ) → fields_of xs (texts ++ z) (record_at kind fill xs f) ≡ f
  unfolding record_at
  record-back z =
      fields_read xs (texts ++ z) (encode kind xs (placed_at fill xs f))
      ∙ ap (read_all (texts ++ z) xs) (decode-encode xs fineness kind (placed_at fill xs f))
      ∙ all_back texts b u z fill xs f s h

  -- and it is a layout
  pub record-good : good xs texts (record_at kind fill xs f) ≡ true
  unfolding record_at
  record-good = good-encode xs fineness kind (placed_at fill xs f) texts ∙ all-fits texts b u fill xs f s h
