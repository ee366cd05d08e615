-- A store into a record is a change of one field. Assumes nothing.
use Prim.Native.Nat.{ℕ, zero, suc, ◌+◌, ◌-◌, ◌*◌, ◌/◌, ◌%◌, ◌^◌, ◌≤◌, ◌<◌}
use mathlib.Core.Bool.{Bool, true, false, cond, ◌&&◌}
use mathlib.Core.List.{List, [], ◌∷◌, ◌++◌, append_assoc}
use mathlib.Core.Option.{Option, none, some}
use mathlib.Core.Path.{◌≡◌, refl, sym, ap, ap₂, subst, ◌∙◌}
use native.Mathlib.Nat.{add-sub_of_le, pow-succ', mul-add, add_assoc, zero-add}
use native.Mathlib.Omega.{arith}
use borrow.Author.Tests.{leb-true}
use lib.Dec.{leb, eqb}
use lib.ListN.{length, get_or, set, take, drop, length-append}
use lib.Seq.{take_at, take-append-add, drop-append-add, drop-append_seam}
use Rattle.timestamp.specs.of_area.Area.{zeros}
use Rattle.schema.specs.Records.{flags_of}
use Rattle.schema.proofs.Tests.{bit-flag}
use Rattle.schema.proofs.Tests.{and_left, and_right}
use Rattle.schema.specs.Schema.{Form, Presence, may, Row, width, width_if, behind, bit_of, after, fine_bit, fine_from, fine}
use Rattle.schema.specs.Records.{Span, Of, Held, Fields, is_set, words_of, slot_words, words_from, present, unset, marks_up_to, marks_from, encode}
use Rattle.schema.specs.Stores.{row_at, SlotOf, put_at, splice, with_bit}
use Rattle.schema.proofs.Laws.{length-zeros, length-unset, length-slot}

-- ---- what a table that is fine says of its first row
module _ (n b : ℕ) (x : Row) (xs : List Row) (h : fine_from n b (x ∷ xs) ≡ true) where
  abbrev o : Option ℕ
  o = bit_of x.presence

  abbrev rest : Bool
  rest = fine_from (behind x) (after b o) xs

  fine_up : n ≤ x.word
  fine_up = leb-true n x.word (and_left (leb n x.word) (leb (behind x) 32 && (fine_bit b o && rest)) h)

  fine-bits : (fine_bit b o && rest) ≡ true
  fine-bits = and_right (leb (behind x) 32) (fine_bit b o && rest) (and_right (leb n x.word) (leb (behind x) 32 && (fine_bit b o && rest)) h)

  fine-bit : fine_bit b o ≡ true
  fine-bit = and_left (fine_bit b o) rest fine-bits

  fine-rest : rest ≡ true
  fine-rest = and_right (fine_bit b o) rest fine-bits

-- the words and bits of later rows are higher
word-up : (n b : ℕ) (xs : List Row) (i : ℕ) → fine_from n b xs ≡ true → i < length xs → n ≤ (row_at xs i).word
word-up n b [] i h l = absurd (omega arith)
word-up n b (x ∷ xs) zero h l = fine_up n b x xs h
word-up n b (x ∷ xs) (suc i) h l =
    let u = fine_up n b x xs h in
    let v = word-up (behind x) (after b (bit_of x.presence)) xs i (fine-rest n b x xs h) (omega arith) in
    omega arith

bit_up : (b : ℕ) (q : Option ℕ) → fine_bit b q ≡ true → b ≤ after b q
bit_up b none h = omega arith
bit_up b (some k) h = let e = leb-true b k (and_left (leb b k) (leb k 31) h) in omega arith

mark-up : (n b : ℕ) (xs : List Row) (i k : ℕ) → fine_from n b xs ≡ true → i < length xs → bit_of (row_at xs i).presence ≡ some k → b ≤ k
mark-up n b [] i k h l e = absurd (omega arith)
mark-up n b (x ∷ xs) zero k h l e =
    leb-true b k (and_left (leb b k) (leb k 31) (sym (ap (fine_bit b) e) ∙ fine-bit n b x xs h))
mark-up n b (x ∷ xs) (suc i) k h l e =
    let u = bit_up b (bit_of x.presence) (fine-bit n b x xs h) in
    let v = mark-up (behind x) (after b (bit_of x.presence)) xs i k (fine-rest n b x xs h) (omega arith) e in
    omega arith

-- ---- words
splice-behind : (a l ws : List ℕ) (o : ℕ) → splice (length a + o) ws (a ++ l) ≡ a ++ splice o ws l
splice-behind a l ws o =
    ap₂ (λ (p q : List ℕ). p ++ (ws ++ q)) (take-append-add a l o)
    (ap (λ (m : ℕ). drop m (a ++ l)) (add_assoc (length a) o (length ws)) ∙ drop-append-add a l (o + length ws))
    ∙ append_assoc a (take o l) (ws ++ drop (o + length ws) l)

splice_front : (old l ws : List ℕ) → length ws ≡ length old → splice 0 ws (old ++ l) ≡ ws ++ l
splice_front old l ws e = ap (λ (m : ℕ). ws ++ drop m (old ++ l)) (zero-add (length ws) ∙ e) ∙ ap (λ (q : List ℕ). ws ++ q) (drop-append_seam old l)

words-put : (n b : ℕ) (xs : List Row) (i : ℕ) (v : SlotOf xs i) (f : Fields Span xs) → fine_from n b xs ≡ true → i < length xs
    → splice ((row_at xs i).word - n) (slot_words (row_at xs i).presence (row_at xs i).form v) (words_from n xs f) ≡ words_from n xs (put_at xs i v f)
words-put n b [] i v f h l = absurd (omega arith)
words-put n b (x ∷ xs) zero v f h l =
    let z : List ℕ = zeros (x.word - n) in
    let old : List ℕ = slot_words x.presence x.form f.0 in
    let ws : List ℕ = slot_words x.presence x.form v in
    let t : List ℕ = words_from (behind x) xs f.1 in
    let e : x.word - n ≡ length z + 0 = let q = length-zeros (x.word - n) in omega arith in
    ap (λ (m : ℕ). splice m ws (z ++ (old ++ t))) e ∙ splice-behind z (old ++ t) ws 0
    ∙ ap (λ (q : List ℕ). z ++ q) (splice_front old t ws (length-slot x.presence x.form v ∙ sym (length-slot x.presence x.form f.0)))
words-put n b (x ∷ xs) (suc i) v f h l =
    let z : List ℕ = zeros (x.word - n) in
    let own : List ℕ = slot_words x.presence x.form f.0 in
    let ws : List ℕ = slot_words (row_at xs i).presence (row_at xs i).form v in
    let t : List ℕ = words_from (behind x) xs f.1 in
    let c = after b (bit_of x.presence) in
    let g = fine-rest n b x xs h in
    let m : ℕ = (row_at xs i).word - behind x in
    let e : (row_at xs i).word - n ≡ length z + (length own + m) =
    (let p = length-zeros (x.word - n) in let q = length-slot x.presence x.form f.0 in let u = fine_up n b x xs h in let w = word-up (behind x) c xs i g (omega arith) in omega arith) in
    ap (λ (k : ℕ). splice k ws (z ++ (own ++ t))) e ∙ splice-behind z (own ++ t) ws (length own + m)
    ∙ ap (λ (q : List ℕ). z ++ q) (splice-behind own t ws m ∙ ap (λ (q : List ℕ). own ++ q) (words-put (behind x) c xs i v f.1 g (omega arith)))

-- ---- marks
set-behind : (a l : List Bool) (j : ℕ) (q : Bool) → set (a ++ l) (length a + j) q ≡ a ++ set l j q
set-behind [] l j q = ap (λ (m : ℕ). set l m q) (zero-add j)
set-behind (x ∷ a) l j q =
    let e : suc (length a) + j ≡ suc (length a + j) = omega arith in
    ap (λ (m : ℕ). set (x ∷ (a ++ l)) m q) e ∙ ap (λ (s : List Bool). x ∷ s) (set-behind a l j q)

length-marks : (b : ℕ) (q : Option ℕ) (p : Bool) → fine_bit b q ≡ true → b + length (marks_up_to b q p) ≡ after b q
length-marks b none p h = omega arith
length-marks b (some k) p h =
    let e = leb-true b k (and_left (leb b k) (leb k 31) h) in
    let n : length (unset (k - b) ++ (p ∷ [])) ≡ k - b + 1 = length-append (unset (k - b)) (p ∷ []) ∙ ap (λ (m : ℕ). m + 1) (length-unset (k - b)) in
    omega arith

mark_set : (b k : ℕ) (p q : Bool) (l : List Bool) (u : Option ℕ) → u ≡ some k → set (marks_up_to b u p ++ l) (k - b) q ≡ marks_up_to b u q ++ l
mark_set b k p q l none e = absurd (let z : ◌≡◌ {A = ℕ} 0 1 = cc in omega arith)
mark_set b k p q l (some j) e =
    let s : j ≡ k = cc in
    let a : List Bool = unset (j - b) in
    let m : k - b ≡ length a + 0 = (let r = length-unset (j - b) in omega arith) in
    ap (λ (n : ℕ). set ((a ++ (p ∷ [])) ++ l) n q) m ∙ ap (λ (t : List Bool). set t (length a + 0) q) (append_assoc a (p ∷ []) l)
    ∙ set-behind a (p ∷ l) 0 q ∙ sym (append_assoc a (q ∷ []) l)

marks-put : (n b : ℕ) (xs : List Row) (i k : ℕ) (v : SlotOf xs i) (f : Fields Span xs) → fine_from n b xs ≡ true → i < length xs → bit_of (row_at xs i).presence ≡ some k
    → set (marks_from Span b xs f) (k - b) (present (Of Span (row_at xs i).form) (row_at xs i).presence v) ≡ marks_from Span b xs (put_at xs i v f)
marks-put n b [] i k v f h l e = absurd (omega arith)
marks-put n b (x ∷ xs) zero k v f h l e =
    mark_set b k (present (Of Span x.form) x.presence f.0) (present (Of Span x.form) x.presence v) (marks_from Span (after b (bit_of x.presence)) xs f.1) (bit_of x.presence) e
marks-put n b (x ∷ xs) (suc i) k v f h l e =
    let c = after b (bit_of x.presence) in
    let a : List Bool = marks_up_to b (bit_of x.presence) (present (Of Span x.form) x.presence f.0) in
    let p = present (Of Span (row_at xs i).form) (row_at xs i).presence v in
    let g = fine-rest n b x xs h in
    let m : k - b ≡ length a + (k - c) =
    (let q = length-marks b (bit_of x.presence) (present (Of Span x.form) x.presence f.0) (fine-bit n b x xs h) in let u = mark-up (behind x) c xs i k g (omega arith) e in omega arith) in
    ap (λ (j : ℕ). set (a ++ marks_from Span c xs f.1) j p) m ∙ set-behind a (marks_from Span c xs f.1) (k - c) p
    ∙ ap (λ (q : List Bool). a ++ q) (marks-put (behind x) c xs i k v f.1 g (omega arith) e)

flag-set : (bs : List Bool) (k : ℕ) → k < length bs → flags_of (set bs k true) ≡ cond (get_or bs k false) (flags_of bs) (flags_of bs + 2 ^ k)
flag-set [] k h = absurd (omega arith)
flag-set (true ∷ bs) zero h = refl
flag-set (false ∷ bs) zero h = omega arith
flag-set (b ∷ bs) (suc k) h = go (get_or bs k false) (flag-set bs k (omega arith))
  where
    go : (t : Bool) → flags_of (set bs k true) ≡ cond t (flags_of bs) (flags_of bs + 2 ^ k)
        → cond b 1 0 + 2 * flags_of (set bs k true) ≡ cond t (cond b 1 0 + 2 * flags_of bs) (cond b 1 0 + 2 * flags_of bs + 2 ^ suc k)
    go true e = ap (λ (m : ℕ). cond b 1 0 + 2 * m) e
    go false e = let p : 2 ^ suc k ≡ 2 * 2 ^ k = pow-succ' 2 k in omega arith

mark-under : (n b : ℕ) (xs : List Row) (i k : ℕ) (f : Fields Span xs) → fine_from n b xs ≡ true → i < length xs → bit_of (row_at xs i).presence ≡ some k → k < b + length (marks_from Span b xs f)
mark-under n b [] i k f h l e = absurd (omega arith)
mark-under n b (x ∷ xs) zero k f h l e =
    let p = present (Of Span x.form) x.presence f.0 in
    let q = length-marks b (bit_of x.presence) p (fine-bit n b x xs h) in
    let a : after b (bit_of x.presence) ≡ k + 1 = ap (after b) e in
    let s = length-append (marks_up_to b (bit_of x.presence) p) (marks_from Span (after b (bit_of x.presence)) xs f.1) in
    omega arith
mark-under n b (x ∷ xs) (suc i) k f h l e =
    let p = present (Of Span x.form) x.presence f.0 in
    let q = length-marks b (bit_of x.presence) p (fine-bit n b x xs h) in
    let s = length-append (marks_up_to b (bit_of x.presence) p) (marks_from Span (after b (bit_of x.presence)) xs f.1) in
    let r = mark-under (behind x) (after b (bit_of x.presence)) xs i k f.1 (fine-rest n b x xs h) (omega arith) e in
    omega arith

bit-first : (k a w : ℕ) (l : List ℕ) → with_bit k (a ∷ w ∷ l) ≡ a ∷ cond (eqb (w / 2 ^ k % 2) 1) w (w + 2 ^ k) ∷ l
bit-first k a w l = go (eqb (w / 2 ^ k % 2) 1)
  where
    go : (t : Bool) → cond t (a ∷ w ∷ l) (a ∷ (w + 2 ^ k) ∷ l) ≡ a ∷ cond t w (w + 2 ^ k) ∷ l
    go true = refl
    go false = refl

-- ---- the law, once for every table: a row's words put and its bit set are the record with that value in that row
module _ (xs : List Row) (h : fine xs ≡ true) (kind i k : ℕ) (l : i < length xs) (e : bit_of (row_at xs i).presence ≡ some k)
    (v : SlotOf xs i) (there : present (Of Span (row_at xs i).form) (row_at xs i).presence v ≡ true) (f : Fields Span xs) where
  pub store-encode : with_bit k (splice (row_at xs i).word (slot_words (row_at xs i).presence (row_at xs i).form v) (encode kind xs f)) ≡ encode kind xs (put_at xs i v f)
  unfolding encode
  store-encode =
      let ws : List ℕ = slot_words (row_at xs i).presence (row_at xs i).form v in
      let bs : List Bool = marks_from Span 0 xs f in
      let m : (row_at xs i).word ≡ 2 + ((row_at xs i).word - 2) = (let u = word-up 2 0 xs i h l in omega arith) in
      let s : splice (row_at xs i).word ws (encode kind xs f) ≡ kind ∷ flags_of bs ∷ words_from 2 xs (put_at xs i v f) =
      ap (λ (n : ℕ). splice n ws (encode kind xs f)) m ∙ splice-behind (kind ∷ flags_of bs ∷ []) (words_from 2 xs f) ws ((row_at xs i).word - 2)
      ∙ ap (λ (q : List ℕ). kind ∷ flags_of bs ∷ q) (words-put 2 0 xs i v f h l) in
      let under : k < length bs = (let u = mark-under 2 0 xs i k f h l e in omega arith) in
      let c : k - 0 ≡ k = omega arith in
      let p : set bs k true ≡ marks_from Span 0 xs (put_at xs i v f) =
      ap₂ (λ (n : ℕ) (q : Bool). set bs n q) (sym c) (sym there) ∙ marks-put 2 0 xs i k v f h l e in
      ap (with_bit k) s ∙ bit-first k kind (flags_of bs) (words_from 2 xs (put_at xs i v f))
      ∙ ap (λ (n : ℕ). kind ∷ n ∷ words_from 2 xs (put_at xs i v f))
      (ap (λ (t : Bool). cond t (flags_of bs) (flags_of bs + 2 ^ k)) (bit-flag k bs) ∙ sym (flag-set bs k under) ∙ ap flags_of p)
