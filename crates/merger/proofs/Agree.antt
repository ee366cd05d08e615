-- Of two layouts, the tree that the code makes and its answer are those of the definitions. Assumes nothing.
use Prim.Native.Nat.{ℕ, suc, ◌+◌, ◌/◌, ◌≤◌, ◌<◌, min}
use mathlib.Core.Bool.{Bool, true, false, cond, ◌&&◌}
use mathlib.Core.List.{List, [], ◌∷◌, ◌++◌, append_assoc}
use mathlib.Core.Option.{Option, some}
use mathlib.Core.Path.{◌≡◌, refl, sym, ap, ap₂, ◌∙◌}
use native.Mathlib.Nat.{min-eq_left, min-eq_right}
use native.Mathlib.Omega.{arith}
use borrow.Author.Tests.{leb-true, leb-false, ltb-true, ltb-false, le-leb, lt-leb}
use lib.Dec.{leb, ltb}
use lib.ListN.{length, length-append}
use Rattle.clearing.specs.of_area.Answer.{Answer, gives, refuses}
use Rattle.clearing.specs.of_area.Area.{zeros}
use Rattle.clearing.specs.of_area.Limits.{most_words, most_records, most_bytes}
use Rattle.clearing.specs.of_refusal.declared.Cause.TheVariants as cause
use Rattle.merge_records.specs.of_utf8.Characters.{joined}
use Rattle.merge_records.specs.of_schema.Schema.{report}
use Rattle.merge_records.specs.of_schema.Texts.{fields_of, stored_in, record_at}
use Rattle.merge_records.specs.of_schema.Elements as named
use Rattle.merge_records.specs.of_tree_record.Record.{has_bit, text_at}
use Rattle.merge_records.specs.of_tree_report.Report.{Report}
use Rattle.merge_records.specs.of_tree_report.Layout.{used_words, used_text, filled, records_of, layout}
use Rattle.merge_records.specs.of_tree_counts.Counts as counts
use Rattle.merge_records.specs.of_tree_counts.Counts.{is_count, added}
use Rattle.merge_head.specs.of_build_draft.Parts.{counts_in}
use Rattle.merge_head.specs.of_tree_merge.Merged.{merged_report}
use Rattle.merge_head.specs.of_tree_merge.Moved.{texts_in, texts_of, moved_from}
use Rattle.merge_head.specs.of_tree_merge.Answer as answer
use Rattle.merge_head.specs.of_tree_merge.Answer.{both_by, merged_of, below_report, merged_tree, if_any, limited, placed, merge_answer}
use Rattle.merge_head.specs.inside.Head.{name_size, head_of}
use Rattle.merge_head.proofs.Heading.{name-sized, name-alone, disabled-fits, time-fits, head-record}
use Rattle.merge_records.specs.inside.Copied.{below_in, sizes_in, texts_for, records_for}
use Rattle.merge_records.proofs.Good.{good-texts, good-records, good-sizes}
use Rattle.merge_limits.specs.inside.Limits.{room_by}
use Rattle.merger.specs.inside.Whole.{report_in, name_text, sums_of, nanos_for, rows_for, row_texts_for, tree_texts, tree_words, room_for, used_answer, Sized}
use Rattle.merger.proofs.Trees.{Facts, below-same, tree-facts}

-- ---- numbers
least-records : (words : ℕ) → min words most_words / 32 ≡ min (words / 32) most_records
least-records words = go (leb words most_words) refl
  where
    go : (t : Bool) → leb words most_words ≡ t → min words most_words / 32 ≡ min (words / 32) most_records
    go true e =
        let h : words ≤ most_words = leb-true words most_words e in
        let k : words / 32 ≤ most_records = omega arith in
        ap (λ (n : ℕ). n / 32) (min-eq_left h) ∙ sym (min-eq_left k)
    go false e =
        let h : most_words < words = leb-false words most_words e in
        let i : most_words ≤ words = omega arith in
        let k : most_records ≤ words / 32 = omega arith in
        ap (λ (n : ℕ). n / 32) (min-eq_right i) ∙ sym (min-eq_right k)

module _ (n m w y : ℕ) where
  room-same : room_by n m w y ≡ cond (leb (1 + n) (w / 32)) (cond (leb m y) (gives tt) (refuses cause.TextFull)) (refuses cause.RecordsSpent)
  room-same = go (leb (w / 32) n) (ltb y m) refl refl
    where
      go : (s t : Bool) → leb (w / 32) n ≡ s → ltb y m ≡ t
          → ◌≡◌ {A = Answer (Unit {0})} (cond s (refuses cause.RecordsSpent) (cond t (refuses cause.TextFull) (gives tt)))
          (cond (leb (1 + n) (w / 32)) (cond (leb m y) (gives tt) (refuses cause.TextFull)) (refuses cause.RecordsSpent))
      go true t e f = rw (lt-leb (1 + n) (w / 32) (let l = leb-true (w / 32) n e in omega arith)) refl
      go false true e f =
          rw (le-leb (1 + n) (w / 32) (let l = leb-false (w / 32) n e in omega arith), lt-leb m y (ltb-true y m f)) refl
      go false false e f =
          rw (le-leb (1 + n) (w / 32) (let l = leb-false (w / 32) n e in omega arith), le-leb m y (ltb-false y m f)) refl

length_moved : (texts : List ℕ) (fill : ℕ) (rs : List (List ℕ)) → length (moved_from texts fill rs) ≡ length rs
length_moved texts fill [] = refl
length_moved texts fill (r ∷ rs) = ap suc (length_moved texts (fill + length (texts_of texts r)) rs)

joined-append : (xs ys : List (List ℕ)) → joined (xs ++ ys) ≡ joined xs ++ joined ys
joined-append [] ys = refl
joined-append (x ∷ xs) ys = ap (λ (l : List ℕ). x ++ l) (joined-append xs ys) ∙ sym (append_assoc x (joined xs) (joined ys))

module _ (first first_text_of second second_text_of : List ℕ) (p : layout first first_text_of ≡ true) (q : layout second second_text_of ≡ true) where
  abbrev a : List ℕ
  a = used_words first

  abbrev s : List ℕ
  s = used_text first_text_of

  abbrev b : List ℕ
  b = used_words second

  abbrev t : List ℕ
  t = used_text second_text_of

  abbrev one : Facts first first_text_of
  one = tree-facts first first_text_of p

  abbrev two : Facts second second_text_of
  two = tree-facts second second_text_of q

  abbrev m : Report
  m = merged_report (named.report_of (fields_of report s (report_in a)) one.suites) (named.report_of (fields_of report t (report_in b)) two.suites)

  merged-is : merged_of first first_text_of second second_text_of ≡ some m
  unfolding merged_of
  merged-is = ap₂ (both_by merged_report) one.shown two.shown

  -- ---- the texts
  name-is : name_text s (report_in a) ≡ stored_in report (named.report_fields m)
  unfolding name_text merged_report
  name-is =
      sym (name-alone m.counts.tests m.counts.failures m.counts.errors m.counts.skipped (has_bit 0 (report_in a)) (text_at s (report_in a) 2)
      m.timestamp m.time m.counts.disabled)

  first-texts : texts_for s (below_in a) ≡ texts_in s (below_report first)
  first-texts = ap (texts_for s) (below-same first first_text_of) ∙ good-texts (filled s) s (records_of first) one.good

  second-texts : texts_for t (below_in b) ≡ texts_in t (below_report second)
  second-texts = ap (texts_for t) (below-same second second_text_of) ∙ good-texts (filled t) t (records_of second) two.good

  texts-are : tree_texts a s b t ≡ stored_in report (named.report_fields m) ++ (texts_in s (below_report first) ++ texts_in t (below_report second))
  unfolding tree_texts row_texts_for
  texts-are = ap₂ ◌++◌ name-is (ap₂ ◌++◌ first-texts second-texts)

  pub texts-same : tree_texts a s b t ≡ (merged_tree first first_text_of second second_text_of).texts
  unfolding merged_tree
  texts-same = texts-are ∙ ap (λ (o : Option Report). answer.head_texts o ++ (texts_in s (below_report first) ++ texts_in t (below_report second))) (sym merged-is)

  -- ---- the records
  abbrev fill : ℕ
  fill = length (stored_in report (named.report_fields m))

  rows_are : rows_for a s b t (length (name_text s (report_in a)))
      ≡ joined (moved_from s fill (below_report first)) ++ joined (moved_from t (fill + length (texts_in s (below_report first))) (below_report second))
  unfolding rows_for
  rows_are =
      ap₂ ◌++◌
      (ap₂ (λ (n : ℕ) (rs : List (List ℕ)). records_for s n rs) (ap length name-is) (below-same first first_text_of) ∙ good-records (filled s) s (records_of first) one.good fill)
      (ap₂ (λ (n : ℕ) (rs : List (List ℕ)). records_for t n rs) (ap₂ (λ (x y : List ℕ). length x + length y) name-is first-texts) (below-same second second_text_of)
      ∙ good-records (filled t) t (records_of second) two.good (fill + length (texts_in s (below_report first))))

  head-is : head_of (report_in a) (report_in b) (sums_of a b) (nanos_for a b) (zeros 32) ≡ record_at 1 0 report (named.report_fields m)
  unfolding merged_report
  head-is = head-record (filled s) (filled t) s (report_in a) (report_in b) one.head two.head one.inside

  abbrev tail : List (List ℕ)
  tail = moved_from s fill (below_report first) ++ moved_from t (fill + length (texts_in s (below_report first))) (below_report second)

  records-are : (merged_tree first first_text_of second second_text_of).records ≡ record_at 1 0 report (named.report_fields m) ∷ tail
  unfolding merged_tree
  records-are =
      ap (λ (o : Option Report). answer.head_of o
      ++ (moved_from s (length (answer.head_texts o)) (below_report first) ++ moved_from t (length (answer.head_texts o) + length (texts_in s (below_report first))) (below_report second))) merged-is

  pub words_same : tree_words a s b t ≡ joined (merged_tree first first_text_of second second_text_of).records
  unfolding tree_words
  words_same =
      ap₂ ◌++◌ head-is (rows_are ∙ sym (joined-append (moved_from s fill (below_report first)) (moved_from t (fill + length (texts_in s (below_report first))) (below_report second))))
      ∙ sym (ap joined records-are)

  -- ---- how much they need
  sizes_are : name_size (report_in a) + sizes_in (below_in a) + sizes_in (below_in b) ≡ length (tree_texts a s b t)
  unfolding tree_texts row_texts_for name_text
  sizes_are =
      let x = name-sized (filled s) (filled t) s (report_in a) (report_in b) one.head two.head one.inside in
      let y = ap sizes_in (below-same first first_text_of) ∙ good-sizes (filled s) s one.inside (records_of first) one.good ∙ sym (ap length first-texts) in
      let z = ap sizes_in (below-same second second_text_of) ∙ good-sizes (filled t) t two.inside (records_of second) two.good ∙ sym (ap length second-texts) in
      let n = cond (has_bit 0 (report_in a)) (text_at s (report_in a) 2) [] in
      let k = length-append n (texts_for s (below_in a) ++ texts_for t (below_in b)) in
      let l = length-append (texts_for s (below_in a)) (texts_for t (below_in b)) in
      omega arith

  pub sized : length a ≤ most_words → length b ≤ most_words → Sized a s b t
  sized x y = record { texts = sizes_are; first = x; second = y }

  count-is : length (merged_tree first first_text_of second second_text_of).records ≡ 1 + (length (below_in a) + length (below_in b))
  count-is =
      let x = ap length records-are in
      let y = length-append (moved_from s fill (below_report first)) (moved_from t (fill + length (texts_in s (below_report first))) (below_report second)) in
      let u = length_moved s fill (below_report first) in
      let v = length_moved t (fill + length (texts_in s (below_report first))) (below_report second) in
      let f = ap length (below-same first first_text_of) in
      let g = ap length (below-same second second_text_of) in
      x ∙ (omega arith)

  -- ---- the answer
  room-is : (words bytes : ℕ) → room_for a b (min words most_words) (min bytes most_bytes) ≡ placed (merged_tree first first_text_of second second_text_of) words bytes
  unfolding room_for placed
  room-is words bytes =
      room-same (length (below_in a) + length (below_in b)) (name_size (report_in a) + sizes_in (below_in a) + sizes_in (below_in b)) (min words most_words) (min bytes most_bytes)
      ∙ ap₂ (λ (n k : ℕ).
      cond (leb n k) (cond (leb (name_size (report_in a) + sizes_in (below_in a) + sizes_in (below_in b)) (min bytes most_bytes)) (gives tt) (refuses cause.TextFull)) (refuses cause.RecordsSpent))
      (sym count-is) (least-records words)
      ∙ ap (λ (n : ℕ). cond (leb (length (merged_tree first first_text_of second second_text_of).records) (min (words / 32) most_records))
      (cond (leb n (min bytes most_bytes)) (gives tt) (refuses cause.TextFull)) (refuses cause.RecordsSpent))
      (sizes_are ∙ ap length texts-same)

  counts-are : counts.are_counts (sums_of a b) ≡ answer.counts_fit m
  unfolding merged_report
  counts-are =
      ap (λ (x : Bool). is_count (added (counts_in (report_in a)) (counts_in (report_in b))).tests && (is_count (added (counts_in (report_in a)) (counts_in (report_in b))).failures
      && (is_count (added (counts_in (report_in a)) (counts_in (report_in b))).errors && (is_count (added (counts_in (report_in a)) (counts_in (report_in b))).skipped && x))))
      (disabled-fits (filled s) (filled t) s (report_in a) (report_in b) one.head two.head one.inside)

  time-is : (x : Bool) → ltb (nanos_for a b) 8388608000000000 ≡ x → answer.time_fits m ≡ x
  unfolding merged_report
  time-is x e = time-fits (filled s) (filled t) s (report_in a) (report_in b) one.head two.head one.inside x e

  limits-are : (x : Answer (Unit {0})) → cond (counts.are_counts (sums_of a b)) (cond (leb 8388608000000000 (nanos_for a b)) (refuses cause.TimeLimit) x) (refuses cause.CountLimit)
      ≡ cond (answer.counts_fit m) (cond (answer.time_fits m) x (refuses cause.TimeLimit)) (refuses cause.CountLimit)
  limits-are x =
      ap (λ (c : Bool). cond c (cond (leb 8388608000000000 (nanos_for a b)) (refuses cause.TimeLimit) x) (refuses cause.CountLimit)) counts-are
      ∙ ap (λ (y : Answer (Unit {0})). cond (answer.counts_fit m) y (refuses cause.CountLimit)) (go (ltb (nanos_for a b) 8388608000000000) refl)
    where
      go : (c : Bool) → ltb (nanos_for a b) 8388608000000000 ≡ c
          → ◌≡◌ {A = Answer (Unit {0})} (cond (leb 8388608000000000 (nanos_for a b)) (refuses cause.TimeLimit) x) (cond (answer.time_fits m) x (refuses cause.TimeLimit))
      go true e = rw (lt-leb 8388608000000000 (nanos_for a b) (ltb-true (nanos_for a b) 8388608000000000 e), time-is true e) refl
      go false e = rw (le-leb 8388608000000000 (nanos_for a b) (ltb-false (nanos_for a b) 8388608000000000 e), time-is false e) refl

  pub answer-same : (words bytes : ℕ) → used_answer a b (min words most_words) (min bytes most_bytes) ≡ merge_answer first first_text_of second second_text_of words bytes
  unfolding used_answer merge_answer limited
  answer-same words bytes =
      ap (λ (x : Answer (Unit {0})). cond (counts.are_counts (sums_of a b)) (cond (leb 8388608000000000 (nanos_for a b)) (refuses cause.TimeLimit) x) (refuses cause.CountLimit))
      (room-is words bytes)
      ∙ limits-are (placed (merged_tree first first_text_of second second_text_of) words bytes)
      ∙ ap (λ (o : Option Report). cond (if_any answer.counts_fit o)
      (cond (if_any answer.time_fits o) (placed (merged_tree first first_text_of second second_text_of) words bytes) (refuses cause.TimeLimit)) (refuses cause.CountLimit)) (sym merged-is)
      ∙ rw (p, q) refl
