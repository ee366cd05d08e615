-- What each call makes of the two result areas. Assumes nothing.
use Prim.Native.Nat.{ℕ, zero, suc, ◌+◌, ◌-◌, ◌*◌, ◌/◌, ◌≤◌}
use mathlib.Core.Bool.{Bool, true, false, cond, false≢true}
use mathlib.Core.List.{List, [], ◌∷◌, ◌++◌}
use mathlib.Core.Path.{◌≡◌, refl, sym, ap, ap₂, ◌∙◌}
use native.Mathlib.Omega.{arith}
use borrow.Author.Tests.{leb-false, ltb-false}
use lib.Dec.{leb, ltb, eqb}
use lib.ListN.{length, get_or, take, drop, length-append, length-drop}
use lib.Seq.{length-take-le}
use Rattle.clearing.specs.of_area.Answer.{Answer, gives, refuses}
use Rattle.clearing.specs.of_area.Area.{zeros}
use Rattle.clearing.specs.of_area.Limits.{most_bytes}
use Rattle.clearing.proofs.of_area.Lists.{take-zeros}
use Rattle.clearing.specs.of_refusal.declared.Cause.{Cause}
use Rattle.clearing.specs.of_refusal.declared.Cause.TheVariants as cause
use Rattle.clearing.specs.of_refusal.declared.Verdict.{Verdict}
use Rattle.clearing.specs.of_refusal.declared.Verdict.TheVariants.{Accepted, Refused}
use Rattle.merge_records.specs.of_schema.Stores.{splice}
use Rattle.merge_records.specs.of_list_sums.inside.Rows.{records_in}
use Rattle.merge_records.specs.of_tree_record.Record.{live, has_bit, text_at}
use Rattle.merge_records.specs.of_tree_report.Layout.{records_from}
use Rattle.merge_records.specs.of_tree_report.ReportOf.{only}
use Rattle.merge_records.specs.of_tree_counts.declared.Counts.{Counts}
use Rattle.merge_records.specs.of_tree_counts.declared.Counted.{Counted}
use Rattle.merge_records.specs.of_tree_counts.Counts.{added, are_counts, with_suite, counted_from}
use Rattle.merge_head.specs.of_tree_merge.Answer.{is_below}
use Rattle.merge_records.specs.of_merge_rows.inside.Slots.{row_texts, row_moved_of}
use Rattle.merge_records.proofs.of_merge_rows.Splicing.{splice-then, length-splice, first_fits, middle-fits, middle-size, third-fits, third-size, three}
use Rattle.merge_records.specs.declared.Mark.{Mark}
use Rattle.merge_records.specs.inside.Copied.{below_in, sizes_in, texts_for, records_for, Room}
use Rattle.merge_records.proofs.Copying.{length_moved}
use Rattle.merge_head.specs.inside.Head.{first_of, name_size, head_of}
use Rattle.merge_limits.specs.inside.Limits.{room_by}
use Rattle.merger.specs.inside.Whole.{report_in, name_text, sums_of, nanos_for, rows_for, row_texts_for, tree_texts, tree_words, room_for, used_answer, left_by, Sized, Enough, Zero}

pub report-is : {r : List ℕ} (words : List ℕ) → r ≡ first_of (only live (records_in words)) → r ≡ report_in words
unfolding report_in
report-is words e = e

-- ---- the name
module _ (text r : List ℕ) where
  pub name-here : {a n : ℕ} {p : List ℕ} → has_bit 0 r ≡ true → a ≡ get_or r 2 0 → n ≡ get_or r 3 0 → p ≡ take n (drop a text) → p ≡ name_text text r
  unfolding name_text
  name-here h x y e = e ∙ ap₂ (λ (n a : ℕ). take n (drop a text)) y x ∙ sym (ap (λ (t : Bool). cond t (text_at text r 2) []) h)

  pub name-none : has_bit 0 r ≡ false → name_text text r ≡ []
  unfolding name_text
  name-none h = ap (λ (t : Bool). cond t (text_at text r 2) []) h

-- ---- room
module _ (a b : List ℕ) (w y : ℕ) where
  pub room-known : {x1 x2 y1 y2 n : ℕ} {rep : List ℕ} {ans : Answer (Unit {0})} → x1 ≡ length (below_in a) → x2 ≡ sizes_in (below_in a) → y1 ≡ length (below_in b) → y2 ≡ sizes_in (below_in b)
      → n ≡ name_size rep → rep ≡ report_in a → ans ≡ room_by (x1 + y1) (n + x2 + y2) w y → ans ≡ room_for a b w y
  unfolding room_for
  room-known e f g h u v k = k ∙ rw (e, f, g, h, u, v) refl

abbrev is_given : Answer (Unit {0}) → Bool
is_given (gives u) = true
is_given (refuses c) = false

pub enough : (a s b t records bytes : List ℕ) → room_for a b (length records) (length bytes) ≡ gives tt → Sized a s b t → length bytes ≤ most_bytes → Enough a s b t records bytes
unfolding room_for
enough a s b t records bytes e z m =
    go (leb (length records / 32) (length (below_in a) + length (below_in b))) (ltb (length bytes) (name_size (report_in a) + sizes_in (below_in a) + sizes_in (below_in b))) refl refl e
  where
    go : (p q : Bool) → leb (length records / 32) (length (below_in a) + length (below_in b)) ≡ p → ltb (length bytes) (name_size (report_in a) + sizes_in (below_in a) + sizes_in (below_in b)) ≡ q
        → ◌≡◌ {A = Answer (Unit {0})} (cond p (refuses cause.RecordsSpent) (cond q (refuses cause.TextFull) (gives tt))) (gives tt) → Enough a s b t records bytes
    go true q x y e = absurd (false≢true (ap is_given e))
    go false true x y e = absurd (false≢true (ap is_given e))
    go false false x y e =
        let i = leb-false (length records / 32) (length (below_in a) + length (below_in b)) x in
        let j = ltb-false (length bytes) (name_size (report_in a) + sizes_in (below_in a) + sizes_in (below_in b)) y in
        let k = z.texts in
        record { words = omega arith; fits = omega arith; most = m }

-- ---- copied records have 32 words each
one-row : (w : List ℕ) (rs : List (List ℕ)) (texts : List ℕ) (fill : ℕ) → 32 ≤ length w → ((f : ℕ) → length (records_for texts f rs) ≡ length rs * 32) → (q : Bool)
    → length (records_for texts fill (cond q (take 32 w ∷ rs) rs)) ≡ length (cond q (take 32 w ∷ rs) rs) * 32
unfolding records_for
one-row w rs texts fill l k true =
    let f = fill + length (row_texts texts (take 32 w)) in
    let x = length-append (row_moved_of texts fill (take 32 w)) (records_for texts f rs) in
    let y = length_moved texts fill (take 32 w) in
    let z : length (take 32 w) ≡ 32 = length-take-le 32 w l in
    let v = k f in
    x ∙ (omega arith)
one-row w rs texts fill l k false = k fill

rows-from : (n : ℕ) (w : List ℕ) → n * 32 ≤ length w → (texts : List ℕ) (fill : ℕ) → length (records_for texts fill (only is_below (records_from n w))) ≡ length (only is_below (records_from n w)) * 32
unfolding records_from records_for
rows-from zero w h texts fill = refl
rows-from (suc n) w h texts fill =
    let d : length (drop 32 w) ≡ length w - 32 = length-drop 32 w in
    go (eqb (get_or w 0 0) 0) (is_below (take 32 w)) (omega arith) (rows-from n (drop 32 w) (omega arith) texts)
  where
    go : (p q : Bool) → 32 ≤ length w → ((f : ℕ) → length (records_for texts f (only is_below (records_from n (drop 32 w)))) ≡ length (only is_below (records_from n (drop 32 w))) * 32)
        → length (records_for texts fill (only is_below (cond p [] (take 32 w ∷ records_from n (drop 32 w))))) ≡ length (only is_below (cond p [] (take 32 w ∷ records_from n (drop 32 w)))) * 32
    go true q l k = refl
    go false q l k = one-row w (only is_below (records_from n (drop 32 w))) texts fill l k (is_below (take 32 w))

rows-length : (words texts : List ℕ) (fill : ℕ) → length (records_for texts fill (below_in words)) ≡ length (below_in words) * 32
unfolding below_in records_in
rows-length words texts fill = rows-from (length words / 32) words (omega arith) texts fill

-- ---- the records behind the report's
module _ (a s b t r records bytes : List ℕ) (e : r ≡ report_in a) (h : Enough a s b t records bytes) where
  abbrev n0 : List ℕ
  n0 = name_text s r

  abbrev t1 : List ℕ
  t1 = texts_for s (below_in a)

  abbrev t2 : List ℕ
  t2 = texts_for t (below_in b)

  split : tree_texts a s b t ≡ n0 ++ (t1 ++ t2)
  unfolding tree_texts row_texts_for
  split = ap (λ (l : List ℕ). name_text s l ++ (t1 ++ t2)) (sym e)

  all-fits : 0 + length (n0 ++ (t1 ++ t2)) ≤ length bytes
  all-fits = let x = ap length split in let y = h.fits in omega arith

  pub name-fits : length n0 ≤ length bytes
  name-fits = let f = first_fits 0 bytes n0 (t1 ++ t2) all-fits in omega arith

  module _ {n : ℕ} {bytes₁ : List ℕ} (x : n ≡ length n0) (y : bytes₁ ≡ splice 0 n0 bytes) where
    from_zero : n ≡ 0 + length n0
    from_zero = omega arith

    pub first-room : Room s (below_in a) (record { word = 32; fill = n }) records bytes₁
    first-room = record {
      words = let w = h.words in omega arith;
      fits = middle-fits 0 bytes n0 t1 t2 all-fits from_zero y;
      most = let z = middle-size 0 bytes n0 t1 t2 all-fits from_zero y in let m = h.most in omega arith;
    }

    abbrev r1 : List ℕ
    r1 = records_for s n (below_in a)

    long : length r1 ≡ length (below_in a) * 32
    long = rows-length a s n

    fits1 : 32 + length r1 ≤ length records
    fits1 = let l = long in let w = h.words in omega arith

    module _ {mk : Mark} {records₁ bytes₂ : List ℕ} (u : mk.word ≡ 32 + length (below_in a) * 32) (v : mk.fill ≡ n + length t1)
        (z : records₁ ≡ splice 32 r1 records) (w : bytes₂ ≡ splice n t1 bytes₁) where
      pub second-room : Room t (below_in b) mk records₁ bytes₂
      second-room = record {
        words =
            let l : length records₁ ≡ length records = ap length z ∙ length-splice 32 records r1 fits1 in
            let k = h.words in
            omega arith;
        fits = third-fits 0 bytes n0 t1 t2 all-fits from_zero y v w;
        most = let k = third-size 0 bytes n0 t1 t2 all-fits from_zero y w in let m = h.most in omega arith;
      }

      pub rows-put : {records₂ : List ℕ} → records₂ ≡ splice mk.word (records_for t mk.fill (below_in b)) records₁ → records₂ ≡ splice 32 (rows_for a s b t (length n0)) records
      unfolding rows_for
      rows-put k =
          k ∙ ap₂ (λ (i j : ℕ). splice i (records_for t j (below_in b)) records₁) (u ∙ ap (λ (m : ℕ). 32 + m) (sym long)) v
          ∙ ap (splice (32 + length r1) (records_for t (n + length t1) (below_in b))) z
          ∙ splice-then 32 records r1 fits1 (records_for t (n + length t1) (below_in b))
          ∙ ap (λ (i : ℕ). splice 32 (records_for s i (below_in a) ++ records_for t (i + length t1) (below_in b)) records) x

      pub texts-put : {bytes₃ : List ℕ} → bytes₃ ≡ splice mk.fill t2 bytes₂ → bytes₃ ≡ splice 0 (tree_texts a s b t) bytes
      texts-put k = three 0 bytes n0 t1 t2 all-fits from_zero y v w k ∙ ap (λ (l : List ℕ). splice 0 l bytes) (sym split)

-- ---- the report's record before them
module _ (a s b t records bytes ys : List ℕ) (l : length ys ≡ length (take 32 records)) (h : Enough a s b t records bytes) where
  of_32 : length ys ≡ 32
  of_32 = l ∙ length-take-le 32 records (let w = h.words in omega arith)

  whole : length (ys ++ drop 32 records) ≡ length records
  whole = let x = length-append ys (drop 32 records) in let d = length-drop 32 records in let y = of_32 in let w = h.words in x ∙ (omega arith)

  pub head-enough : Enough a s b t (ys ++ drop 32 records) bytes
  head-enough = let x = whole in record { words = let w = h.words in omega arith; fits = h.fits; most = h.most }

  as-splice : ys ++ drop 32 records ≡ splice 0 ys records
  as-splice =
      let z : 32 ≡ 0 + length ys = (let x = of_32 in omega arith) in
      ap (λ (n : ℕ). ys ++ drop n records) z

  pub tree-put : (rows : List ℕ) {records₂ : List ℕ} → records₂ ≡ splice 32 rows (ys ++ drop 32 records) → records₂ ≡ splice 0 (ys ++ rows) records
  tree-put rows k =
      let z : 32 ≡ 0 + length ys = (let x = of_32 in omega arith) in
      k ∙ ap₂ (λ (n : ℕ) (x : List ℕ). splice n rows x) z as-splice
      ∙ splice-then 0 records ys (let x = of_32 in let w = h.words in omega arith) rows

-- ---- in areas of zeros
module _ (a s b t records bytes : List ℕ) (z : Zero records bytes) where
  pub none-put : {x : Cause} → refuses x ≡ room_for a b (length records) (length bytes)
      → (refuses x ≡ room_for a b (length records) (length bytes))
      × ((records ≡ left_by (room_for a b (length records) (length bytes)) (length records) (tree_words a s b t))
      × (bytes ≡ left_by (room_for a b (length records) (length bytes)) (length bytes) (tree_texts a s b t)))
  none-put r =
      (r, (z.words ∙ ap (λ (o : Answer (Unit {0})). left_by o (length records) (tree_words a s b t)) r, z.texts ∙ ap (λ (o : Answer (Unit {0})). left_by o (length bytes) (tree_texts a s b t)) r))

  pub all-put : {records₂ bytes₂ : List ℕ} {c : Counts} {n : ℕ} → gives tt ≡ room_for a b (length records) (length bytes) → Enough a s b t records bytes → c ≡ sums_of a b → n ≡ nanos_for a b
      → records₂ ≡ splice 0 (head_of (report_in a) (report_in b) c n (take 32 records) ++ rows_for a s b t (length (name_text s (report_in a)))) records
      → bytes₂ ≡ splice 0 (tree_texts a s b t) bytes
      → (gives tt ≡ room_for a b (length records) (length bytes))
      × ((records₂ ≡ left_by (room_for a b (length records) (length bytes)) (length records) (tree_words a s b t))
      × (bytes₂ ≡ left_by (room_for a b (length records) (length bytes)) (length bytes) (tree_texts a s b t)))
  unfolding tree_words
  all-put {c = c} {n = n} r h x y e f =
      let rows = rows_for a s b t (length (name_text s (report_in a))) in
      let front : take 32 records ≡ zeros 32 = ap (take 32) z.words ∙ take-zeros 32 (length records) (let w = h.words in omega arith) in (
        r,
        (
          e ∙ ap₂ (λ (c : Counts) (n : ℕ). splice 0 (head_of (report_in a) (report_in b) c n (take 32 records) ++ rows) records) x y
              ∙ ap₂ (λ (p q : List ℕ). splice 0 (head_of (report_in a) (report_in b) (sums_of a b) (nanos_for a b) p ++ rows) q) front z.words
              ∙ ap (λ (o : Answer (Unit {0})). left_by o (length records) (head_of (report_in a) (report_in b) (sums_of a b) (nanos_for a b) (zeros 32) ++ rows)) r,
          f ∙ ap (splice 0 (tree_texts a s b t)) z.texts ∙ ap (λ (o : Answer (Unit {0})). left_by o (length bytes) (tree_texts a s b t)) r,
        ),
      )

-- ---- 17 and 22
module _ {sums : Counted} (x y : Counts) (e : sums ≡ counted_from x (with_suite x y)) where
  verdict-of : (t : Bool) → are_counts (added x y) ≡ t → sums.verdict ≡ cond t Accepted Refused
  unfolding with_suite
  verdict-of true h = ap (λ (k : Counted). k.verdict) e ∙ rw h refl
  verdict-of false h = ap (λ (k : Counted). k.verdict) e ∙ rw h refl

  abbrev is_accepted : Verdict → Bool
  is_accepted Accepted = true
  is_accepted Refused = false

  pub sums-good : sums.verdict ≡ Accepted → are_counts (added x y) ≡ true
  sums-good v = go (are_counts (added x y)) refl
    where
      go : (t : Bool) → are_counts (added x y) ≡ t → t ≡ true
      go true h = refl
      go false h = absurd (false≢true (ap is_accepted (sym (verdict-of false h) ∙ v)))

  pub sums-bad : sums.verdict ≡ Refused → are_counts (added x y) ≡ false
  sums-bad v = go (are_counts (added x y)) refl
    where
      go : (t : Bool) → are_counts (added x y) ≡ t → t ≡ false
      go true h = absurd (false≢true (ap is_accepted (sym v ∙ verdict-of true h)))
      go false h = refl

  pub sums_are : are_counts (added x y) ≡ true → sums.counts ≡ added x y
  unfolding with_suite
  sums_are h = ap (λ (k : Counted). k.counts) e ∙ rw h refl

module _ (a b : List ℕ) (w y : ℕ) where
  pub used-counts : are_counts (sums_of a b) ≡ false → refuses cause.CountLimit ≡ used_answer a b w y
  unfolding used_answer
  used-counts h = rw h refl

  pub used-time : are_counts (sums_of a b) ≡ true → leb 8388608000000000 (nanos_for a b) ≡ true → refuses cause.TimeLimit ≡ used_answer a b w y
  unfolding used_answer
  used-time h k = rw (h, k) refl

  pub used-room : are_counts (sums_of a b) ≡ true → leb 8388608000000000 (nanos_for a b) ≡ false → room_for a b w y ≡ used_answer a b w y
  unfolding used_answer
  used-room h k = rw (h, k) refl

-- a refusal leaves zeros
pub left-zero : (a s b t records bytes : List ℕ) {c : Cause} → Zero records bytes → refuses c ≡ used_answer a b (length records) (length bytes)
    → (refuses c ≡ used_answer a b (length records) (length bytes))
    × ((records ≡ left_by (used_answer a b (length records) (length bytes)) (length records) (tree_words a s b t))
    × (bytes ≡ left_by (used_answer a b (length records) (length bytes)) (length bytes) (tree_texts a s b t)))
left-zero a s b t records bytes z r =
    (r, (z.words ∙ ap (λ (o : Answer (Unit {0})). left_by o (length records) (tree_words a s b t)) r, z.texts ∙ ap (λ (o : Answer (Unit {0})). left_by o (length bytes) (tree_texts a s b t)) r))
