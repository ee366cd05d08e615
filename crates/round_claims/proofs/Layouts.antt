-- The areas that hold a report that fits: their lengths, words of 32 bits, bytes. Assumes nothing.
use Prim.Native.Nat.{ℕ, zero, suc, ◌+◌, ◌-◌, ◌*◌, ◌/◌, ◌%◌, ◌≤◌}
use mathlib.Core.Bool.{Bool, true, false, not, cond, ◌&&◌}
use mathlib.Core.List.{List, [], ◌∷◌, ◌++◌}
use mathlib.Core.Option.{none, some}
use mathlib.Core.Path.{◌≡◌, refl, ◌∙◌}
use native.Mathlib.Omega.{arith}
use borrow.Author.Tests.{le-leb, leb-true, not-false}
use lib.Dec.{leb, eqb, lit≤}
use lib.ListN.{length, get_or, take, drop, length-append, length-replicate}
use Rattle.public_claims.specs.of_area.Area.{zeros, laid}
use Rattle.public_claims.specs.of_area.Limits.{most_records, most_bytes}
use Rattle.public_claims.proofs.of_area.Laying.{length-laid}
use Rattle.public_claims.specs.of_utf8.Characters.{joined}
use Rattle.public_claims.specs.of_utf8.Grammar as grammar
use Rattle.public_claims.specs.of_utf8.Grammar.{In, Char}
use Rattle.public_claims.proofs.of_utf8.Rules.{utf8-grammar}
use Rattle.public_claims.specs.of_calendar.Calendar.{is_leap, lengths, month_length}
use Rattle.public_claims.proofs.of_timestamp.Ranges.{range-facts}
use Rattle.public_claims.specs.of_schema.Schema as schema
use Rattle.public_claims.specs.of_schema.Schema.{Form, text, number, time, timestamp, uuid, flag, Presence, always, must, may, unkept, width, behind, fine}
use Rattle.public_claims.specs.of_schema.Records as records
use Rattle.public_claims.specs.of_schema.Records.{Span, Of, Held, Fields, slot_words, words_from, marks_from, flags_of}
use Rattle.public_claims.specs.of_schema.Texts as texts
use Rattle.public_claims.specs.of_schema.Texts.{stored_value, stored, place_value, place_slot, placed_at, sound_value, sound_slot}
use Rattle.public_claims.proofs.of_schema.RecordLaws.{flags-below}
use Rattle.public_claims.specs.of_tree_report.Report.{Text, Report}
use Rattle.public_claims.specs.of_tree_report.Encode.{Row, texts_of, record_at, stored_in, records_at, rows_of, encode, words_of, text_of, every, fits_row, fits}
use Rattle.public_claims.proofs.of_tree_report.Encode.{rows-utf8}
use Rattle.public_claims.proofs.of_tree_report.EncodeGood.{Known, known-rows}
use Rattle.public_claims.proofs.of_tree_report.EncodeKinds.{suite_kinds, report-kinds}
use Rattle.public_claims.proofs.of_tree_report.EncodeLists.{Each, done, more, both, and_left, and_right, every-each, among, Kinds, missed-one}
use Rattle.round_sound.specs.Words.{are_words}
use Rattle.round_trip.proofs.of_round_report.Parts.{every_append}
use Rattle.round_claims.specs.Demand2.{are_bytes}

-- ---- a test of every element of an area
module _ (p : ℕ → Bool) where
  every_take : (n : ℕ) (l : List ℕ) → every p l ≡ true → every p (take n l) ≡ true
  every_take zero l e = refl
  every_take (suc n) [] e = refl
  every_take (suc n) (x ∷ l) e = both (and_left (p x) (every p l) e) (every_take n l (and_right (p x) (every p l) e))

  every_drop : (n : ℕ) (l : List ℕ) → every p l ≡ true → every p (drop n l) ≡ true
  every_drop zero l e = e
  every_drop (suc n) [] e = refl
  every_drop (suc n) (x ∷ l) e = every_drop n l (and_right (p x) (every p l) e)

  every-zeros : p 0 ≡ true → (n : ℕ) → every p (zeros n) ≡ true
  every-zeros e zero = refl
  every-zeros e (suc n) = both e (every-zeros e n)

  every-laid : p 0 ≡ true → (n : ℕ) (f : List ℕ) → every p f ≡ true → every p (laid (zeros n) f) ≡ true
  every-laid e n f h = every_append p (take (length (zeros n)) f) (drop (length f) (zeros n)) (every_take (length (zeros n)) f h) (every_drop (length f) (zeros n) (every-zeros e n))

-- ---- bytes of UTF-8
byte : (most : ℕ) → most ≤ 255 → {least b : ℕ} → In least most b → leb b 255 ≡ true
byte most l {b = b} h = let z = h.1 in le-leb b 255 (omega arith)

tail : {least b : ℕ} → In least 0xBF b → leb b 255 ≡ true
tail h = byte 0xBF (lit≤ tt) h

char-bytes : {c : List ℕ} → Char c → are_bytes c ≡ true
char-bytes (grammar.one a) = both (byte 0x7F (lit≤ tt) a) refl
char-bytes (grammar.two a b) = both (byte 0xDF (lit≤ tt) a) (both (tail b) refl)
char-bytes (grammar.three-e0 a b c) = both (byte 0xE0 (lit≤ tt) a) (both (tail b) (both (tail c) refl))
char-bytes (grammar.three-e1 a b c) = both (byte 0xEC (lit≤ tt) a) (both (tail b) (both (tail c) refl))
char-bytes (grammar.three-ed a b c) = both (byte 0xED (lit≤ tt) a) (both (byte 0x9F (lit≤ tt) b) (both (tail c) refl))
char-bytes (grammar.three-ee a b c) = both (byte 0xEF (lit≤ tt) a) (both (tail b) (both (tail c) refl))
char-bytes (grammar.four_f0 a b c d) = both (byte 0xF0 (lit≤ tt) a) (both (tail b) (both (tail c) (both (tail d) refl)))
char-bytes (grammar.four_f1 a b c d) = both (byte 0xF3 (lit≤ tt) a) (both (tail b) (both (tail c) (both (tail d) refl)))
char-bytes (grammar.four_f4 a b c d) = both (byte 0xF4 (lit≤ tt) a) (both (byte 0x8F (lit≤ tt) b) (both (tail c) (both (tail d) refl)))

text-bytes : {s : List ℕ} → grammar.Text s → are_bytes s ≡ true
text-bytes grammar.none = refl
text-bytes (grammar.some {c} {s} h t) = every_append (λ (b : ℕ). leb b 255) c s (char-bytes h) (text-bytes t)

-- ---- words that fit
abbrev is_word : ℕ → Bool
is_word w = leb w 4294967295

-- no month has more than 31 days
month-most : (y m : ℕ) → month_length y m ≤ 31
unfolding month_length
month-most y m = go (eqb m 2 && is_leap y)
  where
    most : (l : List ℕ) (k : ℕ) → every (λ (b : ℕ). leb b 31) l ≡ true → get_or l k 0 ≤ 31
    most [] k e = lit≤ tt
    most (b ∷ l) zero e = leb-true b 31 (and_left (leb b 31) (every (λ (x : ℕ). leb x 31) l) e)
    most (b ∷ l) (suc k) e = most l k (and_right (leb b 31) (every (λ (x : ℕ). leb x 31) l) e)

    go : (t : Bool) → cond t 29 (get_or (0 ∷ lengths) m 0) ≤ 31
    go true = lit≤ tt
    go false = most (0 ∷ lengths) m refl

module _ (fill : ℕ) where
  value-words : (t : Form) (v : Of Text t) → sound_value t v ≡ true → fill + length (stored_value t v) ≤ most_bytes → are_words (records.words_of t (place_value fill t v)) ≡ true
  value-words text v s h = both (le-leb fill 4294967295 (omega (arith, h))) (both (le-leb (length v) 4294967295 (omega (arith, h))) refl)
  value-words number v s h =
      let l = leb-true v 18446744073709551615 s in
      both (le-leb (v % 4294967296) 4294967295 (omega arith)) (both (le-leb (v / 4294967296) 4294967295 (omega (arith, l))) refl)
  value-words time v s h =
      let a = leb-true v.seconds 8388607 (and_left (leb v.seconds 8388607) (leb v.nanos 999999999) s) in
      let b = leb-true v.nanos 999999999 (and_right (leb v.seconds 8388607) (leb v.nanos 999999999) s) in
      both (le-leb v.seconds 4294967295 (omega (arith, a))) (both (le-leb v.nanos 4294967295 (omega (arith, b))) refl)
  value-words timestamp v s h =
      let i = range-facts v s in
      let d = month-most v.year v.month in
      both (le-leb v.year 4294967295 (omega (arith, i.year-most)))
      (both (le-leb v.month 4294967295 (omega (arith, i.month-most)))
      (both (le-leb v.day 4294967295 (omega (arith, i.day-most, d)))
      (both (le-leb v.hour 4294967295 (omega (arith, i.hour-most)))
      (both (le-leb v.minute 4294967295 (omega (arith, i.minute-most)))
      (both (le-leb v.second 4294967295 (omega (arith, i.second-most)))
      (both (le-leb v.nanos 4294967295 (omega (arith, i.nanos-below))) (both (le-leb v.offset 4294967295 (omega (arith, i.offset-most))) refl)))))))
  value-words uuid v s h =
      let b = and_right (is_word v.a) (is_word v.b && (is_word v.c && is_word v.d)) s in
      let c = and_right (is_word v.b) (is_word v.c && is_word v.d) b in
      both (and_left (is_word v.a) (is_word v.b && (is_word v.c && is_word v.d)) s)
      (both (and_left (is_word v.b) (is_word v.c && is_word v.d) b) (both (and_left (is_word v.c) (is_word v.d) c) (both (and_right (is_word v.c) (is_word v.d) c) refl)))
  value-words flag v s h = refl

  slot-words : (p : Presence) (t : Form) (v : Held p (Of Text t)) → sound_slot p t v ≡ true → fill + length (stored p t v) ≤ most_bytes → are_words (slot_words p t (place_slot fill p t v)) ≡ true
  slot-words always t v s h = value-words t v s h
  slot-words (must k) t v s h = value-words t v s h
  slot-words (may k) t none s h = every-zeros is_word refl (width t)
  slot-words (may k) t (some v) s h = value-words t v s h
  slot-words unkept t v s h = refl

from-words : (n fill : ℕ) (xs : List schema.Row) (f : Fields Text xs) → texts.sound xs f ≡ true → fill + length (texts.stored_in xs f) ≤ most_bytes
    → are_words (words_from n xs (placed_at fill xs f)) ≡ true
from-words n fill [] f s h = every-zeros is_word refl (32 - n)
from-words n fill (x ∷ xs) f s h =
    let own : List ℕ = stored x.presence x.form f.0 in
    let l : length (own ++ texts.stored_in xs f.1) ≡ length own + length (texts.stored_in xs f.1) = length-append own (texts.stored_in xs f.1) in
    let ws = slot_words x.presence x.form (place_slot fill x.presence x.form f.0) in
    let rest = words_from (behind x) xs (placed_at (fill + length own) xs f.1) in
    let a = and_left (sound_slot x.presence x.form f.0) (texts.sound xs f.1) s in
    let b = and_right (sound_slot x.presence x.form f.0) (texts.sound xs f.1) s in
    every_append is_word (zeros (x.word - n)) (ws ++ rest) (every-zeros is_word refl (x.word - n))
    (every_append is_word ws rest (slot-words fill x.presence x.form f.0 a (omega (arith, h, l))) (from-words (behind x) (fill + length own) xs f.1 b (omega (arith, h, l))))

-- up to 32 presence bits
flags-word : (xs : List schema.Row) → fine xs ≡ true → (f : Fields Span xs) → is_word (flags_of (marks_from Span 0 xs f)) ≡ true
flags-word xs h f = let b = flags-below xs h f in le-leb (flags_of (marks_from Span 0 xs f)) 4294967295 (omega (arith, b))

kind-word : (k : ℕ) → among (1 ∷ 2 ∷ suite_kinds) k ≡ true → is_word k ≡ true
kind-word k e = not-false (is_word k) (missed-one (λ (j : ℕ). not (is_word j)) (1 ∷ 2 ∷ suite_kinds) k refl e)

records-words : {rows : List Row} → Each Known rows → Each (λ r. fits_row r ≡ true) rows → Kinds (1 ∷ 2 ∷ suite_kinds) rows
    → (fill : ℕ) → fill + length (stored_in rows) ≤ most_bytes → are_words (joined (records_at fill rows)) ≡ true
unfolding texts.record_at records.encode fits_row
records-words done done done fill h = refl
records-words (more {x = r} {xs = rows} w ws) (more f fs) (more k ks) fill h =
    let own : List ℕ = texts_of r in
    let l : length (own ++ stored_in rows) ≡ length own + length (stored_in rows) = length-append own (stored_in rows) in
    every_append is_word (record_at fill r) (joined (records_at (fill + length own) rows))
    (both (kind-word r.kind k)
    (both (flags-word r.table w.tested (placed_at fill r.table r.fields)) (from-words 2 fill r.table r.fields f (omega (arith, h, l)))))
    (records-words ws fs ks (fill + length own) (omega (arith, h, l)))

-- ---- the areas
module _ (r : Report) where
  pub words-length : (n : ℕ) → length (words_of r n) ≡ n
  unfolding words_of
  words-length n = length-laid (zeros n) (joined (encode r).records) ∙ length-replicate {A = ℕ} n 0

  pub text-length : (m : ℕ) → length (text_of r m) ≡ m
  unfolding text_of
  text-length m = length-laid (zeros m) (encode r).texts ∙ length-replicate {A = ℕ} m 0

  abbrev size : ℕ
  size = length (stored_in (rows_of r))

  module _ (n m : ℕ) (f : fits r n m ≡ true) where
    texts-fit : (leb size most_bytes && (leb size m && every fits_row (rows_of r))) ≡ true
    unfolding fits
    texts-fit =
        let behind : Bool = leb size most_bytes && (leb size m && every fits_row (rows_of r)) in
        and_right (leb (length (rows_of r) * 32) n) behind (and_right (leb (length (rows_of r)) most_records) (leb (length (rows_of r) * 32) n && behind) f)

    rows_fit : Each (λ row. fits_row row ≡ true) (rows_of r)
    rows_fit =
        every-each fits_row (rows_of r) (and_right (leb size m) (every fits_row (rows_of r)) (and_right (leb size most_bytes) (leb size m && every fits_row (rows_of r)) texts-fit))

    -- the areas of a report that fits are such as may be lent
    pub words-lent : are_words (words_of r n) ≡ true
    unfolding words_of encode
    words-lent =
        let h = leb-true size most_bytes (and_left (leb size most_bytes) (leb size m && every fits_row (rows_of r)) texts-fit) in
        every-laid is_word refl n (joined (records_at 0 (rows_of r))) (records-words (known-rows r) rows_fit (report-kinds r) 0 (omega arith))

    pub text-lent : are_bytes (text_of r m) ≡ true
    unfolding text_of encode
    text-lent = every-laid (λ (b : ℕ). leb b 255) refl m (stored_in (rows_of r)) (text-bytes ((utf8-grammar (stored_in (rows_of r))).0 (rows-utf8 rows_fit)))
