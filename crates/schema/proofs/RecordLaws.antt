-- A record's length and presence bits, and a record whose texts stand anywhere, once for every table. Assumes nothing.
use Prim.Native.Nat.{ℕ, zero, suc, ◌+◌, ◌-◌, ◌^◌, ◌≤◌}
use mathlib.Core.Bool.{Bool, true, false, not, ◌&&◌}
use mathlib.Core.List.{List, [], ◌∷◌, ◌++◌}
use mathlib.Core.Option.{Option, none, some}
use mathlib.Core.Path.{◌≡◌, refl, ap, ap₂, ◌∙◌}
use native.Mathlib.Nat.{add-sub_of_le, pow-succ'}
use native.Mathlib.Omega.{arith}
use borrow.Author.Tests.{leb-true}
use lib.Dec.{leb, lit≤}
use lib.ListN.{length, take, drop, length-append, length-drop}
use lib.Seq.{take-append-le, drop-append-le}
use Rattle.timestamp.specs.of_area.Area.{zeros}
use Rattle.text_filter.specs.of_utf8.Characters.{boundary}
use Rattle.text_filter.specs.of_utf8.Utf8.{utf8}
use Rattle.text_filter.specs.Filter.{dropped, unfiltered}
use Rattle.schema.specs.Report.{Text}
use Rattle.schema.specs.Schema.{Form, text, number, time, timestamp, uuid, flag, Presence, always, must, may, unkept, Row, width, width_if, behind, bit_of, after, fine_bit, fine_from, fine}
use Rattle.schema.specs.Records.{Span, Of, Held, Fields, good_value, good, slot_words, words_from, flags_of, present, unset, marks_up_to, marks_from, encode, fits_slot, fits}
use Rattle.schema.specs.Texts.{read_value, read_slot, read_all, fields_of, stored_value, stored, stored_in, place_value, place_slot, placed_at, sound_value, sound_slot, sound}
use Rattle.schema.proofs.Tests.{both, and_left, and_right}
use Rattle.schema.proofs.Laws.{length-zeros, length-unset, length-slot, decode-encode, good-encode}
use Rattle.schema.proofs.TextLaws.{fields_read}

-- ---- 32 words
length_from : (n b : ℕ) (xs : List Row) (f : Fields Span xs) → fine_from n b xs ≡ true → n + length (words_from n xs f) ≡ 32
length_from n b [] f h = ap (λ (k : ℕ). n + k) (length-zeros (32 - n)) ∙ add-sub_of_le (leb-true n 32 h)
length_from n b (x ∷ xs) f h =
    let o = bit_of x.presence in
    let rest = fine_from (behind x) (after b o) xs in
    let h2 = and_right (leb n x.word) (leb (behind x) 32 && (fine_bit b o && rest)) h in
    let h3 = and_right (leb (behind x) 32) (fine_bit b o && rest) h2 in
    let up : n ≤ x.word = leb-true n x.word (and_left (leb n x.word) (leb (behind x) 32 && (fine_bit b o && rest)) h) in
    let z : List ℕ = zeros (x.word - n) in
    let s : List ℕ = slot_words x.presence x.form f.0 in
    let l : List ℕ = words_from (behind x) xs f.1 in
    let a : length (z ++ (s ++ l)) ≡ length z + (length s + length l) = length-append z (s ++ l) ∙ ap (λ (k : ℕ). length z + k) (length-append s l) in
    let c : length z ≡ x.word - n = length-zeros (x.word - n) in
    let d : length s ≡ width_if x.presence (width x.form) = length-slot x.presence x.form f.0 in
    let e : behind x + length l ≡ 32 = length_from (behind x) (after b o) xs f.1 (and_right (fine_bit b o) rest h3) in
    omega (arith, a, c, d, e, up)

pub length-encode : (xs : List Row) → fine xs ≡ true → (kind : ℕ) (f : Fields Span xs) → length (encode kind xs f) ≡ 32
unfolding encode
length-encode xs h kind f = let e = length_from 2 0 xs f h in omega (arith, e)

-- ---- presence bits don't depend on where texts stand
pub present-placed : (x : ℕ) (p : Presence) (t : Form) (v : Held p (Of Text t)) → present (Of Span t) p (place_slot x p t v) ≡ present (Of Text t) p v
present-placed x always t v = refl
present-placed x (must k) t v = refl
present-placed x (may k) t none = refl
present-placed x (may k) t (some v) = refl
present-placed x unkept t v = refl

pub marks-placed : (fill b : ℕ) (xs : List Row) (f : Fields Text xs) → marks_from Span b xs (placed_at fill xs f) ≡ marks_from Text b xs f
marks-placed fill b [] f = refl
marks-placed fill b (x ∷ xs) f =
    ap₂ (λ (q : Bool) (l : List Bool). marks_up_to b (bit_of x.presence) q ++ l) (present-placed fill x.presence x.form f.0)
    (marks-placed (fill + length (stored x.presence x.form f.0)) (after b (bit_of x.presence)) xs f.1)

marks-length : (n b : ℕ) (xs : List Row) (f : Fields Span xs) → fine_from n b xs ≡ true → b ≤ 32 → b + length (marks_from Span b xs f) ≤ 32
marks-length n b [] f h l = omega (arith, l)
marks-length n b (x ∷ xs) f h l =
    let o = bit_of x.presence in
    let rest = fine_from (behind x) (after b o) xs in
    let h3 = and_right (leb (behind x) 32) (fine_bit b o && rest) (and_right (leb n x.word) (leb (behind x) 32 && (fine_bit b o && rest)) h) in
    go o (present (Of Span x.form) x.presence f.0) (and_left (fine_bit b o) rest h3)
    (λ j. marks-length (behind x) (after b o) xs f.1 (and_right (fine_bit b o) rest h3) j)
  where
    go : (o : Option ℕ) (p : Bool) → fine_bit b o ≡ true → (after b o ≤ 32 → after b o + length (marks_from Span (after b (bit_of x.presence)) xs f.1) ≤ 32)
        → b + length (marks_up_to b o p ++ marks_from Span (after b (bit_of x.presence)) xs f.1) ≤ 32
    go none p e k = k l
    go (some i) p e k =
        let m : List Bool = marks_from Span (after b (bit_of x.presence)) xs f.1 in
        let c : b ≤ i = leb-true b i (and_left (leb b i) (leb i 31) e) in
        let d : i ≤ 31 = leb-true i 31 (and_right (leb b i) (leb i 31) e) in
        let u : length ((unset (i - b) ++ (p ∷ [])) ++ m) ≡ length (unset (i - b) ++ (p ∷ [])) + length m = length-append (unset (i - b) ++ (p ∷ [])) m in
        let v : length (unset (i - b) ++ (p ∷ [])) ≡ length (unset (i - b)) + 1 = length-append (unset (i - b)) (p ∷ []) in
        let w : length (unset (i - b)) ≡ i - b = length-unset (i - b) in
        let y = k (omega (arith, d)) in
        omega (arith, c, d, u, v, w, y)

-- the presence bits are one word
pub flags-below : (xs : List Row) → fine xs ≡ true → (f : Fields Span xs) → suc (flags_of (marks_from Span 0 xs f)) ≤ 4294967296
flags-below xs h f = under 32 (marks_from Span 0 xs f) (let l = marks-length 2 0 xs f h (lit≤ tt) in omega (arith, l))
  where
    pow_pos : (n : ℕ) → 1 ≤ 2 ^ n
    pow_pos zero = lit≤ tt
    pow_pos (suc n) = let e = pow-succ' 2 n in let k = pow_pos n in omega (arith, e, k)

    under : (n : ℕ) (bs : List Bool) → length bs ≤ n → suc (flags_of bs) ≤ 2 ^ n
    under n [] l = pow_pos n
    under zero (b ∷ bs) l = absurd (omega (arith, l))
    under (suc n) (true ∷ bs) l = let e = pow-succ' 2 n in let k = under n bs (omega (arith, l)) in omega (arith, e, k)
    under (suc n) (false ∷ bs) l = let e = pow-succ' 2 n in let k = under n bs (omega (arith, l)) in omega (arith, e, k)

-- ---- texts that are sound have no filtered characters
pub clean-append : (a b : List ℕ) → unfiltered a ≡ true → unfiltered b ≡ true → unfiltered (a ++ b) ≡ true
clean-append [] b e h = h
clean-append (x ∷ a) b e h = both (and_left (not (dropped x)) (unfiltered a) e) (clean-append a b (and_right (not (dropped x)) (unfiltered a) e) h)

clean-value : (t : Form) (v : Of Text t) → sound_value t v ≡ true → unfiltered (stored_value t v) ≡ true
clean-value text v s = and_right (utf8 v) (unfiltered v) s
clean-value number v s = refl
clean-value time v s = refl
clean-value timestamp v s = refl
clean-value uuid v s = refl
clean-value flag v s = refl

clean-slot : (p : Presence) (t : Form) (v : Held p (Of Text t)) → sound_slot p t v ≡ true → unfiltered (stored p t v) ≡ true
clean-slot always t v s = clean-value t v s
clean-slot (must k) t v s = clean-value t v s
clean-slot (may k) t none s = refl
clean-slot (may k) t (some v) s = clean-value t v s
clean-slot unkept t v s = refl

pub clean_all : (xs : List Row) (f : Fields Text xs) → sound xs f ≡ true → unfiltered (stored_in xs f) ≡ true
clean_all [] f s = refl
clean_all (x ∷ xs) f s =
    let a = and_left (sound_slot x.presence x.form f.0) (sound xs f.1) s in
    let b = and_right (sound_slot x.presence x.form f.0) (sound xs f.1) s in
    clean-append (stored x.presence x.form f.0) (stored_in xs f.1) (clean-slot x.presence x.form f.0 a) (clean_all xs f.1 b)

-- ---- each text from the byte that is given for its word on
abbrev pub placed_by : (ℕ → ℕ) → (xs : List Row) → Fields Text xs → Fields Span xs
placed_by start [] f = tt
placed_by start (x ∷ xs) f = (place_slot (start x.word) x.presence x.form f.0, placed_by start xs f.1)

pub marks-by : (start : ℕ → ℕ) (b : ℕ) (xs : List Row) (f : Fields Text xs) → marks_from Span b xs (placed_by start xs f) ≡ marks_from Text b xs f
marks-by start b [] f = refl
marks-by start b (x ∷ xs) f =
    ap₂ (λ (q : Bool) (l : List Bool). marks_up_to b (bit_of x.presence) q ++ l) (present-placed (start x.word) x.presence x.form f.0)
    (marks-by start (after b (bit_of x.presence)) xs f.1)

module _ (texts : List ℕ) where
  -- a text stands at x, and its ends are no middle of a character
  abbrev pub TextStands : ℕ → Text → Type 0
  TextStands x v = (take (length v) (drop x texts) ≡ v) × ((leb (x + length v) (length texts) && (boundary texts x && boundary texts (x + length v))) ≡ true)

  abbrev pub ValueStands : ℕ → (t : Form) → Of Text t → Type 0
  ValueStands x text v = TextStands x v
  ValueStands x number v = Unit {0}
  ValueStands x time v = Unit {0}
  ValueStands x timestamp v = Unit {0}
  ValueStands x uuid v = Unit {0}
  ValueStands x flag v = Unit {0}

  abbrev pub GivenStands : ℕ → (t : Form) → Option (Of Text t) → Type 0
  GivenStands x text none = Unit {0}
  GivenStands x text (some v) = TextStands x v
  GivenStands x number v = Unit {0}
  GivenStands x time v = Unit {0}
  GivenStands x timestamp v = Unit {0}
  GivenStands x uuid v = Unit {0}
  GivenStands x flag v = Unit {0}

  abbrev pub SlotStands : ℕ → (p : Presence) (t : Form) → Held p (Of Text t) → Type 0
  SlotStands x always t v = ValueStands x t v
  SlotStands x (must k) t v = ValueStands x t v
  SlotStands x (may k) t v = GivenStands x t v
  SlotStands x unkept t v = Unit {0}

  abbrev pub StandBy : (ℕ → ℕ) → (xs : List Row) → Fields Text xs → Type 0
  StandBy start [] f = Unit {0}
  StandBy start (x ∷ xs) f = SlotStands (start x.word) x.presence x.form f.0 × StandBy start xs f.1

  -- a text is read back, whatever stands behind the texts
  pub text-read : (x : ℕ) (v : Text) → TextStands x v → (z : List ℕ) → take (length v) (drop x (texts ++ z)) ≡ v
  text-read x v h z =
      let l = leb-true (x + length v) (length texts) (and_left (leb (x + length v) (length texts)) (boundary texts x && boundary texts (x + length v)) h.1) in
      let n : length (drop x texts) ≡ length texts - x = length-drop x texts in
      ap (take (length v)) (drop-append-le x texts z (omega arith)) ∙ take-append-le (length v) (drop x texts) z (omega arith) ∙ h.0

  given-value : (x : ℕ) (t : Form) (v : Of Text t) → GivenStands x t (some v) → ValueStands x t v
  given-value x text v h = h
  given-value x number v h = tt
  given-value x time v h = tt
  given-value x timestamp v h = tt
  given-value x uuid v h = tt
  given-value x flag v h = tt

  value_read : (x : ℕ) (t : Form) (v : Of Text t) → ValueStands x t v → (z : List ℕ) → read_value (texts ++ z) t (place_value x t v) ≡ v
  value_read x text v h z = text-read x v h z
  value_read x number v h z = refl
  value_read x time v h z = refl
  value_read x timestamp v h z = refl
  value_read x uuid v h z = refl
  value_read x flag v h z = refl

  value-fits : (x : ℕ) (t : Form) (v : Of Text t) → sound_value t v ≡ true → ValueStands x t v → good_value texts t (place_value x t v) ≡ true
  value-fits x text v s h = h.1
  value-fits x number v s h = refl
  value-fits x time v s h = s
  value-fits x timestamp v s h = s
  value-fits x uuid v s h = refl
  value-fits x flag v s h = refl

  slot_read : (x : ℕ) (p : Presence) (t : Form) (v : Held p (Of Text t)) → SlotStands x p t v → (z : List ℕ) → read_slot (texts ++ z) p t (place_slot x p t v) ≡ v
  slot_read x always t v h z = value_read x t v h z
  slot_read x (must k) t v h z = value_read x t v h z
  slot_read x (may k) t none h z = refl
  slot_read x (may k) t (some v) h z = ap (λ (a : Of Text t). some a) (value_read x t v (given-value x t v h) z)
  slot_read x unkept t v h z = refl

  slot-fits : (x : ℕ) (p : Presence) (t : Form) (v : Held p (Of Text t)) → sound_slot p t v ≡ true → SlotStands x p t v → fits_slot texts p t (place_slot x p t v) ≡ true
  slot-fits x always t v s h = value-fits x t v s h
  slot-fits x (must k) t v s h = value-fits x t v s h
  slot-fits x (may k) t none s h = refl
  slot-fits x (may k) t (some v) s h = value-fits x t v s (given-value x t v h)
  slot-fits x unkept t v s h = refl

  all_read : (start : ℕ → ℕ) (xs : List Row) (f : Fields Text xs) → StandBy start xs f → (z : List ℕ) → read_all (texts ++ z) xs (placed_by start xs f) ≡ f
  all_read start [] f h z = refl
  all_read start (x ∷ xs) f h z =
      let first = slot_read (start x.word) x.presence x.form f.0 h.0 z in
      let rest = all_read start xs f.1 h.1 z in
      λ i. (first i, rest i)

  all-fits : (start : ℕ → ℕ) (xs : List Row) (f : Fields Text xs) → sound xs f ≡ true → StandBy start xs f → fits texts xs (placed_by start xs f) ≡ true
  all-fits start [] f s h = refl
  all-fits start (x ∷ xs) f s h =
      let own = sound_slot x.presence x.form f.0 in
      both (slot-fits (start x.word) x.presence x.form f.0 (and_left own (sound xs f.1) s) h.0)
      (all-fits start xs f.1 (and_right own (sound xs f.1) s) h.1)

  -- ---- the laws of a record whose texts stand anywhere
  module _ (xs : List Row) (fineness : fine xs ≡ true) (kind : ℕ) (start : ℕ → ℕ) (f : Fields Text xs) (h : StandBy start xs f) where
    pub anywhere-back : (z : List ℕ) → fields_of xs (texts ++ z) (encode kind xs (placed_by start xs f)) ≡ f
    anywhere-back z =
        fields_read xs (texts ++ z) (encode kind xs (placed_by start xs f))
        ∙ ap (read_all (texts ++ z) xs) (decode-encode xs fineness kind (placed_by start xs f))
        ∙ all_read start xs f h z

    pub anywhere-good : sound xs f ≡ true → good xs texts (encode kind xs (placed_by start xs f)) ≡ true
    anywhere-good s = good-encode xs fineness kind (placed_by start xs f) texts ∙ all-fits start xs f s h
