-- A table's laws, for all rows: what is encoded is read back, and its layout is good exactly if its values are. Assumes nothing.
use Prim.Native.Nat.{ℕ, zero, suc, ◌+◌, ◌-◌, ◌*◌, ◌/◌, ◌%◌, ◌^◌, ◌≤◌}
use mathlib.Core.Bool.{Bool, true, false, cond, ◌&&◌}
use mathlib.Core.List.{List, [], ◌∷◌, ◌++◌, append_assoc, append-nil}
use mathlib.Core.Option.{Option, none, some}
use mathlib.Core.Path.{◌≡◌, refl, sym, ap, ap₂, ◌∙◌}
use native.Mathlib.Nat.{mod-add-div', add-sub_of_le, pow-suc, pow-succ', mul_assoc, mul_comm, mul-add, one-mul, zero-add, add-zero, mul-zero}
use native.Mathlib.Numerals.{add-one}
use native.Mathlib.Omega.{arith}
use borrow.Author.Tests.{eq-eqb, leb-true}
use lib.Dec.{leb, eqb}
use lib.Pow.{pow-add}
use lib.ListN.{length, get_or, take, drop, length-append}
use lib.Seq.{take_at, drop-drop, drop-append_seam, get_or-drop, get_or-append-add, get_or-append_seam}
use Rattle.timestamp.specs.of_area.Area.{zeros}
use Rattle.schema.specs.Records.{zero_at, all_zero}
use Rattle.schema.specs.Records.{flags_of}
use Rattle.schema.proofs.Tests.{bit-flag}
use Rattle.schema.proofs.Tests.{and_left, and_right}
use Rattle.schema.proofs.Tests.{zero-zeros}
use Rattle.schema.specs.Schema.{Form, text, number, time, timestamp, uuid, flag, Presence, always, must, may, unkept, Row, width, width_if, behind, bit_of, after, fine_bit, fine_from, fine}
use Rattle.schema.specs.Records.{Span, Of, Held, Fields, is_set, value_at, slot_at, fields_at, good_value, good_slot, good_from, bit_value, bits_in, good}
use Rattle.schema.specs.Records.{words_of, slot_words, words_from, present, unset, marks_up_to, marks_from, encode, fits_slot, fits}

-- ---- lists
pub length-zeros : (n : ℕ) → length (zeros n) ≡ n
length-zeros zero = refl
length-zeros (suc n) = ap suc (length-zeros n)

pub length-unset : (n : ℕ) → length (unset n) ≡ n
length-unset zero = refl
length-unset (suc n) = ap suc (length-unset n)

-- behind a
drop_past : (n m : ℕ) (r a l : List ℕ) → drop n r ≡ a ++ l → n + length a ≡ m → drop m r ≡ l
drop_past n m r a l h e = ap (λ (k : ℕ). drop k r) (sym e) ∙ sym (drop-drop (length a) n r) ∙ ap (drop (length a)) h ∙ drop-append_seam a l

word_at : (r l : List ℕ) (o i : ℕ) → drop o r ≡ l → get_or r (o + i) 0 ≡ get_or l i 0
word_at r l o i h = sym (get_or-drop o r i 0) ∙ ap (λ (l : List ℕ). get_or l i 0) h

zero-block : (r l : List ℕ) (n k : ℕ) → drop n r ≡ zeros k ++ l → zero_at r n k ≡ true
zero-block r l n k h = ap (λ (s : List ℕ). all_zero (take k s)) h ∙ ap all_zero (take_at (zeros k) l k (length-zeros k)) ∙ zero-zeros k

front_at : (r l : List ℕ) (o : ℕ) → drop o r ≡ l → get_or r o 0 ≡ get_or l 0 0
front_at r l o h = ap (λ (k : ℕ). get_or r k 0) (sym (add-zero o)) ∙ word_at r l o 0 h

-- ---- one value
length-words : (t : Form) (v : Of Span t) → length (words_of t v) ≡ width t
length-words text v = refl
length-words number v = refl
length-words time v = refl
length-words timestamp v = refl
length-words uuid v = refl
length-words flag v = refl

pub length-slot : (p : Presence) (t : Form) (v : Held p (Of Span t)) → length (slot_words p t v) ≡ width_if p (width t)
length-slot always t v = length-words t v
length-slot (must k) t v = length-words t v
length-slot (may k) t none = length-zeros (width t)
length-slot (may k) t (some v) = length-words t v
length-slot unkept t v = refl

value-back : (t : Form) (v : Of Span t) (r l : List ℕ) (o : ℕ) → drop o r ≡ words_of t v ++ l → value_at t r o ≡ v
value-back text v r l o h = λ i. record { start = front_at r (words_of text v ++ l) o h i; size = word_at r (words_of text v ++ l) o 1 h i }
value-back number v r l o h = ap₂ (λ (a b : ℕ). a + b * 4294967296) (front_at r (words_of number v ++ l) o h) (word_at r (words_of number v ++ l) o 1 h) ∙ mod-add-div' v 4294967296
value-back time v r l o h = λ i. record { seconds = front_at r (words_of time v ++ l) o h i; nanos = word_at r (words_of time v ++ l) o 1 h i }
value-back timestamp v r l o h =
    let w = words_of timestamp v ++ l in
    λ i. record {
      year = front_at r w o h i;
      month = word_at r w o 1 h i;
      day = word_at r w o 2 h i;
      hour = word_at r w o 3 h i;
      minute = word_at r w o 4 h i;
      second = word_at r w o 5 h i;
      nanos = word_at r w o 6 h i;
      offset = word_at r w o 7 h i;
    }
value-back uuid v r l o h =
    let w = words_of uuid v ++ l in
    λ i. record { a = front_at r w o h i; b = word_at r w o 1 h i; c = word_at r w o 2 h i; d = word_at r w o 3 h i }
value-back flag v r l o h = refl

-- ---- presence bits
abbrev Marked : Option ℕ → Bool → (ℕ → Bool) → Type 0
Marked none q s = Unit {0}
Marked (some k) q s = s k ≡ q

module _ (s : ℕ → Bool) (l : List Bool) (q : Bool) where
  abbrev Told : ℕ → List Bool → Type 0
  Told b m = (j : ℕ) → s (b + j) ≡ get_or m j false

  mark-here : (b : ℕ) (o : Option ℕ) → fine_bit b o ≡ true → Told b (marks_up_to b o q ++ l) → Marked o q s
  mark-here b none h m = tt
  mark-here b (some k) h m =
      let c : b ≤ k = leb-true b k (and_left (leb b k) (leb k 31) h) in
      ap s (sym (add-sub_of_le c)) ∙ m (k - b)
      ∙ ap (λ (z : List Bool). get_or z (k - b) false) (append_assoc (unset (k - b)) (q ∷ []) l)
      ∙ ap (λ (n : ℕ). get_or (unset (k - b) ++ (q ∷ l)) n false) (sym (length-unset (k - b)))
      ∙ get_or-append_seam (unset (k - b)) q l false

  mark-next : (b : ℕ) (o : Option ℕ) → fine_bit b o ≡ true → Told b (marks_up_to b o q ++ l) → Told (after b o) l
  mark-next b none h m j = m j
  mark-next b (some k) h m j =
      let c : b ≤ k = leb-true b k (and_left (leb b k) (leb k 31) h) in
      let front : List Bool = unset (k - b) ++ (q ∷ []) in
      let n : length front ≡ k - b + 1 = length-append (unset (k - b)) (q ∷ []) ∙ ap (λ (n : ℕ). n + 1) (length-unset (k - b)) in
      let e : k + 1 + j ≡ b + (length front + j) = omega (arith, n) in
      ap s e ∙ m (length front + j) ∙ get_or-append-add front l j false

flags-unset : (m : ℕ) (q : Bool) (l : List Bool) → flags_of ((unset m ++ (q ∷ [])) ++ l) ≡ 2 ^ m * (cond q 1 0 + 2 * flags_of l)
flags-unset zero q l = sym (one-mul (cond q 1 0 + 2 * flags_of l))
flags-unset (suc m) q l =
    let i = flags-unset m q l in
    let y : ℕ = cond q 1 0 + 2 * flags_of l in
    zero-add (2 * flags_of ((unset m ++ (q ∷ [])) ++ l)) ∙ ap (λ (n : ℕ). 2 * n) i ∙ sym (mul_assoc 2 (2 ^ m) y) ∙ ap (λ (n : ℕ). n * y) (sym (pow-succ' 2 m))

-- ---- one slot
module _ (r l : List ℕ) (o : ℕ) where
  slot-back : (p : Presence) (t : Form) (v : Held p (Of Span t)) → drop o r ≡ slot_words p t v ++ l → Marked (bit_of p) (present (Of Span t) p v) (λ k. is_set k r) → slot_at p t r o ≡ v
  slot-back always t v h m = value-back t v r l o h
  slot-back (must k) t v h m = value-back t v r l o h
  slot-back (may k) t none h m = rw m refl
  slot-back (may k) t (some v) h m = rw m (ap (λ (x : Of Span t). some x) (value-back t v r l o h))
  slot-back unkept t v h m = refl

  slot-good : (texts : List ℕ) (p : Presence) (t : Form) (v : Held p (Of Span t)) → drop o r ≡ slot_words p t v ++ l → Marked (bit_of p) (present (Of Span t) p v) (λ k. is_set k r)
      → good_slot texts r p t o ≡ fits_slot texts p t v
  slot-good texts always t v h m = ap (good_value texts t) (value-back t v r l o h)
  slot-good texts (must k) t v h m = rw m (ap (good_value texts t) (value-back t v r l o h))
  slot-good texts (may k) t none h m = rw m (zero-block r l o (width t) h)
  slot-good texts (may k) t (some v) h m = rw m (ap (good_value texts t) (value-back t v r l o h))
  slot-good texts unkept t v h m = refl

-- ---- a record r that has the words and marks of the fields, from word n and bit b on
module _ (r : List ℕ) where
  abbrev Shown : (n b : ℕ) (xs : List Row) → Fields Span xs → Type 0
  Shown n b xs f = (drop n r ≡ words_from n xs f) × ((j : ℕ) → is_set (b + j) r ≡ get_or (marks_from Span b xs f) j false)

  -- the row's words and mark, and the rest
  record Parted (x : Row) (xs : List Row) (b : ℕ) (v : Held x.presence (Of Span x.form)) (f : Fields Span xs) : Type 0 where
    words : drop x.word r ≡ slot_words x.presence x.form v ++ words_from (behind x) xs f
    mark : Marked (bit_of x.presence) (present (Of Span x.form) x.presence v) (λ k. is_set k r)
    rest : Shown (behind x) (after b (bit_of x.presence)) xs f
    fine_rest : fine_from (behind x) (after b (bit_of x.presence)) xs ≡ true

  parted : (n b : ℕ) (x : Row) (xs : List Row) (f : Fields Span (x ∷ xs)) → fine_from n b (x ∷ xs) ≡ true → Shown n b (x ∷ xs) f → Parted x xs b f.0 f.1
  parted n b x xs f h s =
      let p = x.presence in
      let t = x.form in
      let o = bit_of p in
      let rest = fine_from (behind x) (after b o) xs in
      let h2 = and_right (leb n x.word) (leb (behind x) 32 && (fine_bit b o && rest)) h in
      let h3 = and_right (leb (behind x) 32) (fine_bit b o && rest) h2 in
      let up : n ≤ x.word = leb-true n x.word (and_left (leb n x.word) (leb (behind x) 32 && (fine_bit b o && rest)) h) in
      let l = words_from (behind x) xs f.1 in
      let m = marks_from Span (after b o) xs f.1 in
      let q = present (Of Span t) p f.0 in
      let w = drop_past n x.word r (zeros (x.word - n)) (slot_words p t f.0 ++ l) s.0 (ap (λ (k : ℕ). n + k) (length-zeros (x.word - n)) ∙ add-sub_of_le up) in
      record {
        words = w;
        mark = mark-here (λ k. is_set k r) m q b o (and_left (fine_bit b o) rest h3) s.1;
        rest = (
          drop_past x.word (behind x) r (slot_words p t f.0) l w (ap (λ (k : ℕ). x.word + k) (length-slot p t f.0)),
          mark-next (λ k. is_set k r) m q b o (and_left (fine_bit b o) rest h3) s.1,
        );
        fine_rest = and_right (fine_bit b o) rest h3;
      }

  fields-shown : (n b : ℕ) (xs : List Row) (f : Fields Span xs) → fine_from n b xs ≡ true → Shown n b xs f → fields_at xs r ≡ f
  fields-shown n b [] f h s = refl
  fields-shown n b (x ∷ xs) f h s =
      let p = parted n b x xs f h s in
      let head = slot-back r (words_from (behind x) xs f.1) x.word x.presence x.form f.0 p.words p.mark in
      let tail = fields-shown (behind x) (after b (bit_of x.presence)) xs f.1 p.fine_rest p.rest in
      λ i. (head i, tail i)

  good-shown : (texts : List ℕ) (n b : ℕ) (xs : List Row) (f : Fields Span xs) → fine_from n b xs ≡ true → Shown n b xs f → good_from texts r n xs ≡ fits texts xs f
  good-shown texts n b [] f h s = zero-block r [] n (32 - n) (s.0 ∙ sym (append-nil (zeros (32 - n))))
  good-shown texts n b (x ∷ xs) f h s =
      let p = parted n b x xs f h s in
      let l = words_from (behind x) xs f.1 in
      let z = zero-block r (slot_words x.presence x.form f.0 ++ l) n (x.word - n) s.0 in
      let head = slot-good r l x.word texts x.presence x.form f.0 p.words p.mark in
      let tail = good-shown texts (behind x) (after b (bit_of x.presence)) xs f.1 p.fine_rest p.rest in
      ap (λ (c : Bool). c && (good_slot texts r x.presence x.form x.word && good_from texts r (behind x) xs)) z
      ∙ ap₂ (λ (c d : Bool). c && d) head tail

  weight-more : (q : Bool) (b k f : ℕ) → b ≤ k → cond q (2 ^ k) 0 + 2 ^ (k + 1) * f ≡ 2 ^ b * (2 ^ (k - b) * (cond q 1 0 + 2 * f))
  weight-more q b k f c =
      let e : 2 ^ b * 2 ^ (k - b) ≡ 2 ^ k = sym (pow-add 2 b (k - b)) ∙ ap (λ (m : ℕ). 2 ^ m) (add-sub_of_le c) in
      let g : 2 ^ (k + 1) * f ≡ 2 ^ k * (2 * f) = ap (λ (m : ℕ). 2 ^ m * f) (add-one k) ∙ ap (λ (m : ℕ). m * f) (pow-suc 2 k) ∙ mul_assoc (2 ^ k) 2 f in
      ap (λ (m : ℕ). cond q (2 ^ k) 0 + m) g ∙ ap (λ (m : ℕ). m + 2 ^ k * (2 * f)) (one q) ∙ sym (mul-add (2 ^ k) (cond q 1 0) (2 * f))
      ∙ ap (λ (m : ℕ). m * (cond q 1 0 + 2 * f)) (sym e) ∙ mul_assoc (2 ^ b) (2 ^ (k - b)) (cond q 1 0 + 2 * f)
    where
      one : (q : Bool) → cond q (2 ^ k) 0 ≡ 2 ^ k * cond q 1 0
      one true = omega arith
      one false = omega arith

  bit-more : (b : ℕ) (o : Option ℕ) (q : Bool) (l : List Bool) (n : ℕ) → fine_bit b o ≡ true → Marked o q (λ k. is_set k r) → n ≡ 2 ^ after b o * flags_of l
      → bit_value o r + n ≡ 2 ^ b * flags_of (marks_up_to b o q ++ l)
  bit-more b none q l n h m e = zero-add n ∙ e
  bit-more b (some k) q l n h m e =
      ap₂ (λ (c : Bool) (i : ℕ). cond c (2 ^ k) 0 + i) m e ∙ weight-more q b k (flags_of l) (leb-true b k (and_left (leb b k) (leb k 31) h))
      ∙ ap (λ (i : ℕ). 2 ^ b * i) (sym (flags-unset (k - b) q l))

  bits-shown : (n b : ℕ) (xs : List Row) (f : Fields Span xs) → fine_from n b xs ≡ true → Shown n b xs f → bits_in xs r ≡ 2 ^ b * flags_of (marks_from Span b xs f)
  bits-shown n b [] f h s = sym (mul-zero (2 ^ b))
  bits-shown n b (x ∷ xs) f h s =
      let p = parted n b x xs f h s in
      let o = bit_of x.presence in
      let rest = fine_from (behind x) (after b o) xs in
      let h3 = and_right (leb (behind x) 32) (fine_bit b o && rest) (and_right (leb n x.word) (leb (behind x) 32 && (fine_bit b o && rest)) h) in
      bit-more b o (present (Of Span x.form) x.presence f.0) (marks_from Span (after b o) xs f.1) (bits_in xs r) (and_left (fine_bit b o) rest h3) p.mark
      (bits-shown (behind x) (after b o) xs f.1 p.fine_rest p.rest)

-- ---- the laws, once for every table
module _ (xs : List Row) (h : fine xs ≡ true) (kind : ℕ) (f : Fields Span xs) where
  shown : Shown (encode kind xs f) 2 0 xs f
  unfolding encode
  shown = (refl, λ j. ap (λ (k : ℕ). is_set k (encode kind xs f)) (zero-add j) ∙ bit-flag j (marks_from Span 0 xs f))

  -- what is encoded is read back
  pub decode-encode : fields_at xs (encode kind xs f) ≡ f
  decode-encode = fields-shown (encode kind xs f) 2 0 xs f h shown

  -- and is a layout exactly if the values are such as a layout may have
  pub good-encode : (texts : List ℕ) → good xs texts (encode kind xs f) ≡ fits texts xs f
  unfolding good encode
  good-encode texts =
      let r = encode kind xs f in
      let b : flags_of (marks_from Span 0 xs f) ≡ bits_in xs r = sym (bits-shown r 2 0 xs f h shown ∙ one-mul (flags_of (marks_from Span 0 xs f))) in
      ap₂ (λ (c d : Bool). c && d) (eq-eqb (flags_of (marks_from Span 0 xs f)) (bits_in xs r) b) (good-shown r texts 2 0 xs f h shown)
