-- What is put into the report's record is the merged report's. Assumes nothing.
use Prim.Native.Nat.{ℕ, ◌+◌, ◌-◌, ◌/◌, ◌%◌, ◌≤◌, ◌<◌}
use mathlib.Core.Bool.{Bool, true, false, cond, not, ◌&&◌, ◌||◌, false≢true}
use mathlib.Core.List.{List, [], append-nil}
use mathlib.Core.Option.{Option, none, some}
use mathlib.Core.Path.{◌≡◌, refl, sym, ap, ap₂, ◌∙◌}
use native.Mathlib.Nat.{add-zero, zero-add}
use native.Mathlib.Omega.{arith}
use borrow.Author.Tests.{leb-true, ltb-true, ltb-false, lt-ltb, le-ltb}
use lib.Dec.{leb, ltb}
use lib.ListN.{length, get_or, set, drop, length-drop}
use lib.Seq.{length-take-le}
use Rattle.tree_values.specs.of_area.Area.{zeros}
use Rattle.tree_values.specs.of_utf8.Characters.{boundary}
use Rattle.tree_values.specs.of_timestamp.declared.Moment.{Moment}
use Rattle.tree_values.specs.of_timestamp.Timestamp.{in_range}
use Rattle.tree_values.proofs.of_timestamp.Ranges.{range-facts}
use Rattle.tree_merge.specs.of_instant.Instant.{instant_of}
use Rattle.tree_merge.specs.of_span.inside.Span.{sooner}
use Rattle.tree_merge.proofs.of_span.Numbers.{as_number}
use Rattle.tree_merge.specs.of_starts.Starts.{nanos_to}
use Rattle.tree_merge.specs.of_tree_stamp.Stamp.{cut_moment}
use Rattle.tree_merge.proofs.of_tree_stamp.Layouts.{moment-own}
use Rattle.tree_merge.specs.of_schema.Report.{Text, Duration}
use Rattle.tree_merge.specs.of_schema.Schema.{report}
use Rattle.tree_merge.specs.of_schema.Records.{is_set, given, Fields, encode}
use Rattle.tree_merge.specs.of_schema.Texts.{stored_in, record_at}
use Rattle.tree_merge.proofs.of_schema.Tests.{and_left, and_right}
use Rattle.tree_values.specs.of_tree_record.Record.{has_bit, text_at, number_at, marked}
use Rattle.tree_values.specs.of_tree_put.Put.{put_text, put_count_of, put_moment, put_time}
use Rattle.tree_merge.specs.of_tree_counts.Counts.{is_count, added}
use Rattle.build_counts.specs.of_build_draft.Parts.{counts_in, put_counts}
use Rattle.tree_merge.specs.of_tree_report.Fields.{moment_of}
use Rattle.tree_merge.specs.of_tree_report.Layout.{zero_at}
use Rattle.tree_merge.specs.of_tree_report.inside.Parts.{good_text_at, text_slot, moment_slot, time_slot, good_common}
use Rattle.tree_merge.specs.Merged.{either_by, nanos_in as nanos_of, added_time, earlier}
use Rattle.tree_merge.specs.Answer.{if_any, is_time}
use Rattle.merge_head.specs.inside.Head.{nanos_in, name_size, put_name, is_earlier, is_second, put_stamp, put_start, put_total, head_of}

-- ---- what a good record tells
picked : (b x y : Bool) → b ≡ true → cond b x y ≡ true → x ≡ true
picked true x y e h = h
picked false x y e h = absurd (false≢true e)

abbrev duration_of : List ℕ → Duration
duration_of r = record { seconds = get_or r 16 0; nanos = get_or r 17 0 }

module _ (g r : List ℕ) (h : good_common g r ≡ true) where
  parts : (text_slot g r 0 2 ≡ true) × ((moment_slot r && time_slot r) ≡ true)
  unfolding good_common
  parts = (and_left (text_slot g r 0 2) (moment_slot r && time_slot r) h, and_right (text_slot g r 0 2) (moment_slot r && time_slot r) h)

  pub name-whole : (texts : List ℕ) → length g ≤ length texts → has_bit 0 r ≡ true → length (text_at texts r 2) ≡ get_or r 3 0
  unfolding good_text_at
  name-whole texts l b =
      let a = get_or r 2 0 in
      let n = get_or r 3 0 in
      let w = picked (has_bit 0 r) (good_text_at g r 2) (zero_at r 2 2) b parts.0 in
      let f : a + n ≤ length g = leb-true (a + n) (length g) (and_left (leb (a + n) (length g)) (boundary g a && boundary g (a + n)) w) in
      let d : length (drop a texts) ≡ length texts - a = length-drop a texts in
      length-take-le n (drop a texts) (omega arith)

  in-range : has_bit 3 r ≡ true → in_range (moment_of r) ≡ true
  in-range b = picked (has_bit 3 r) (in_range (moment_of r)) (zero_at r 8 8) b (and_left (moment_slot r) (time_slot r) parts.1)

  own-moment : has_bit 3 r ≡ true → cut_moment r ≡ moment_of r
  own-moment b = moment-own r (in-range b)

  small-nanos : has_bit 3 r ≡ true → (moment_of r).nanos < 1000000000
  small-nanos b = (range-facts (moment_of r) (in-range b)).nanos-below

  time-good : has_bit 4 r ≡ true → (leb (get_or r 16 0) 8388607 && leb (get_or r 17 0) 999999999) ≡ true
  time-good b = picked (has_bit 4 r) (leb (get_or r 16 0) 8388607 && leb (get_or r 17 0) 999999999) (zero_at r 16 2) b (and_right (moment_slot r) (time_slot r) parts.1)

  pub seconds-most : has_bit 4 r ≡ true → get_or r 16 0 ≤ 8388607
  seconds-most b = leb-true (get_or r 16 0) 8388607 (and_left (leb (get_or r 16 0) 8388607) (leb (get_or r 17 0) 999999999) (time-good b))

  pub nanos-most : has_bit 4 r ≡ true → get_or r 17 0 ≤ 999999999
  nanos-most b = leb-true (get_or r 17 0) 999999999 (and_right (leb (get_or r 16 0) 8388607) (leb (get_or r 17 0) 999999999) (time-good b))

-- seconds are whole
same_test : (n : ℕ) → ltb (n / 1000000000) 8388608 ≡ ltb n 8388608000000000
same_test n = go (ltb n 8388608000000000) refl
  where
    go : (t : Bool) → ltb n 8388608000000000 ≡ t → ltb (n / 1000000000) 8388608 ≡ t
    go true e = lt-ltb (n / 1000000000) 8388608 (let l = ltb-true n 8388608000000000 e in omega arith)
    go false e = le-ltb (n / 1000000000) 8388608 (let l = ltb-false n 8388608000000000 e in omega arith)

-- ---- what is put of each field
abbrev put_name_of : Option Text → List ℕ → List ℕ
put_name_of none s = s
put_name_of (some t) s = put_text 2 0 0 (length t) s

abbrev put_stamp_of : Option Moment → List ℕ → List ℕ
put_stamp_of none s = s
put_stamp_of (some m) s = put_moment m s

abbrev put_time_of : Option Duration → List ℕ → List ℕ
put_time_of none s = s
put_time_of (some d) s = put_time (d.seconds, d.nanos) s

abbrev put_disabled_of : Option ℕ → List ℕ → List ℕ
put_disabled_of none s = s
put_disabled_of (some n) s = marked 8 (put_count_of 26 n s)

-- the record that they make
module _ (t f e k : ℕ) where
  abbrev fields_of : Option Text → Option Moment → Option Duration → Option ℕ → Fields Text report
  fields_of n m d c = (n, (none, (m, (d, (t, (f, (e, (k, (c, tt)))))))))

  abbrev put_all : Option Text → Option Moment → Option Duration → Option ℕ → List ℕ
  put_all n m d c = put_disabled_of c (put_count_of 24 k (put_count_of 22 e (put_count_of 20 f (put_count_of 18 t (put_time_of d (put_stamp_of m (put_name_of n (set (zeros 32) 0 1))))))))

  all-put : (n : Option Text) (m : Option Moment) (d : Option Duration) (c : Option ℕ) → put_all n m d c ≡ record_at 1 0 report (fields_of n m d c)
  unfolding record_at encode marked
  all-put none none none none = refl
  all-put none none none (some c) = refl
  all-put none none (some d) none = refl
  all-put none none (some d) (some c) = refl
  all-put none (some m) none none = refl
  all-put none (some m) none (some c) = refl
  all-put none (some m) (some d) none = refl
  all-put none (some m) (some d) (some c) = refl
  all-put (some n) none none none = refl
  all-put (some n) none none (some c) = refl
  all-put (some n) none (some d) none = refl
  all-put (some n) none (some d) (some c) = refl
  all-put (some n) (some m) none none = refl
  all-put (some n) (some m) none (some c) = refl
  all-put (some n) (some m) (some d) none = refl
  all-put (some n) (some m) (some d) (some c) = refl

  nothing-else : (n : Option Text) (m : Option Moment) (d : Option Duration) (c : Option ℕ) → stored_in report (fields_of n m d c) ≡ stored_in report (fields_of n none none none)
  nothing-else none none none none = refl
  nothing-else none none none (some c) = refl
  nothing-else none none (some d) none = refl
  nothing-else none none (some d) (some c) = refl
  nothing-else none (some m) none none = refl
  nothing-else none (some m) none (some c) = refl
  nothing-else none (some m) (some d) none = refl
  nothing-else none (some m) (some d) (some c) = refl
  nothing-else (some n) none none none = refl
  nothing-else (some n) none none (some c) = refl
  nothing-else (some n) none (some d) none = refl
  nothing-else (some n) none (some d) (some c) = refl
  nothing-else (some n) (some m) none none = refl
  nothing-else (some n) (some m) none (some c) = refl
  nothing-else (some n) (some m) (some d) none = refl
  nothing-else (some n) (some m) (some d) (some c) = refl

  -- the name alone is a text
  pub name-alone : (b : Bool) (x : Text) (m : Option Moment) (d : Option Duration) (c : Option ℕ) → stored_in report (fields_of (given b x) m d c) ≡ cond b x []
  name-alone true x m d c = nothing-else (some x) m d c ∙ append-nil x
  name-alone false x m d c = nothing-else none m d c

-- ---- the fields of two records
module _ (g h texts a b : List ℕ) (p : good_common g a ≡ true) (q : good_common h b ≡ true) (l : length g ≤ length texts) where
  abbrev name : Option Text
  name = given (is_set 0 a) (text_at texts a 2)

  abbrev stamp : Option Moment
  stamp = either_by earlier (given (is_set 3 a) (moment_of a)) (given (is_set 3 b) (moment_of b))

  abbrev time : Option Duration
  time = either_by added_time (given (is_set 4 a) (duration_of a)) (given (is_set 4 b) (duration_of b))

  abbrev disabled : Option ℕ
  disabled = either_by ◌+◌ (given (is_set 8 a) (number_at a 26)) (given (is_set 8 b) (number_at b 26))

  name-put : (s : List ℕ) → put_name a s ≡ put_name_of name s
  unfolding put_name
  name-put s = go (has_bit 0 a) refl
    where
      go : (t : Bool) → has_bit 0 a ≡ t → cond t (put_text 2 0 0 (get_or a 3 0) s) s ≡ put_name_of (given t (text_at texts a 2)) s
      go true e = ap (λ (n : ℕ). put_text 2 0 0 n s) (sym (name-whole g a p texts l e))
      go false e = refl

  pub name-sized : name_size a ≡ length (cond (has_bit 0 a) (text_at texts a 2) [])
  unfolding name_size
  name-sized = go (has_bit 0 a) refl
    where
      go : (t : Bool) → has_bit 0 a ≡ t → cond t (get_or a 3 0) 0 ≡ length (cond t (text_at texts a 2) [])
      go true e = sym (name-whole g a p texts l e)
      go false e = refl

  earlier-number : has_bit 3 a ≡ true → has_bit 3 b ≡ true → is_earlier b a ≡ ltb (nanos_to (moment_of b)) (nanos_to (moment_of a))
  unfolding is_earlier nanos_to instant_of
  earlier-number x y =
      ap₂ (λ (m n : Moment). sooner (instant_of m) (instant_of n)) (own-moment h b q y) (own-moment g a p x)
      ∙ as_number (instant_of (moment_of b)).seconds (instant_of (moment_of b)).nanos (instant_of (moment_of a)).seconds (instant_of (moment_of a)).nanos (small-nanos h b q y) (small-nanos g a p x)

  stamp-put : (s : List ℕ) → put_start a b s ≡ put_stamp_of stamp s
  unfolding put_start is_second put_stamp
  stamp-put s = go (has_bit 3 a) (has_bit 3 b) refl refl
    where
      last : (t : Bool) → cond t (put_moment (cut_moment b) s) (put_moment (cut_moment a) s) ≡ put_moment (cond t (cut_moment b) (cut_moment a)) s
      last true = refl
      last false = refl

      go : (x y : Bool) → has_bit 3 a ≡ x → has_bit 3 b ≡ y
          → cond (y && (not x || is_earlier b a)) (cond y (put_moment (cut_moment b) s) s) (cond x (put_moment (cut_moment a) s) s)
          ≡ put_stamp_of (either_by earlier (given x (moment_of a)) (given y (moment_of b))) s
      go true true x y =
          last (is_earlier b a)
          ∙ ap (λ (t : Bool). put_moment (cond t (cut_moment b) (cut_moment a)) s) (earlier-number x y)
          ∙ ap₂ (λ (m n : Moment). put_moment (cond (ltb (nanos_to (moment_of b)) (nanos_to (moment_of a))) m n) s) (own-moment h b q y) (own-moment g a p x)
      go true false x y = ap (λ (m : Moment). put_moment m s) (own-moment g a p x)
      go false true x y = ap (λ (m : Moment). put_moment m s) (own-moment h b q y)
      go false false x y = refl

  time-put : (s : List ℕ) → put_total a b (nanos_in a + nanos_in b) s ≡ put_time_of time s
  unfolding put_total nanos_in
  time-put s = go (has_bit 4 a) (has_bit 4 b) refl refl
    where
      go : (x y : Bool) → has_bit 4 a ≡ x → has_bit 4 b ≡ y
          → cond (x || y)
          (put_time ((cond x (nanos_of (duration_of a)) 0 + cond y (nanos_of (duration_of b)) 0) / 1000000000, (cond x (nanos_of (duration_of a)) 0 + cond y (nanos_of (duration_of b)) 0) % 1000000000) s) s
          ≡ put_time_of (either_by added_time (given x (duration_of a)) (given y (duration_of b))) s
      go true true x y = refl
      go true false x y =
          let n = nanos-most g a p x in
          let u : (nanos_of (duration_of a) + 0) / 1000000000 ≡ get_or a 16 0 = omega arith in
          let v : (nanos_of (duration_of a) + 0) % 1000000000 ≡ get_or a 17 0 = omega arith in
          ap₂ (λ (i j : ℕ). put_time (i, j) s) u v
      go false true x y =
          let n = nanos-most h b q y in
          let u : (0 + nanos_of (duration_of b)) / 1000000000 ≡ get_or b 16 0 = omega arith in
          let v : (0 + nanos_of (duration_of b)) % 1000000000 ≡ get_or b 17 0 = omega arith in
          ap₂ (λ (i j : ℕ). put_time (i, j) s) u v
      go false false x y = refl

  pub time-fits : (t : Bool) → ltb (nanos_in a + nanos_in b) 8388608000000000 ≡ t → if_any is_time time ≡ t
  unfolding nanos_in
  time-fits t e = go (has_bit 4 a) (has_bit 4 b) refl refl e
    where
      go : (x y : Bool) → has_bit 4 a ≡ x → has_bit 4 b ≡ y → ltb (cond x (nanos_of (duration_of a)) 0 + cond y (nanos_of (duration_of b)) 0) 8388608000000000 ≡ t
          → if_any is_time (either_by added_time (given x (duration_of a)) (given y (duration_of b))) ≡ t
      go true true x y e = same_test (nanos_of (duration_of a) + nanos_of (duration_of b)) ∙ e
      go true false x y e =
          let s = seconds-most g a p x in
          let n = nanos-most g a p x in
          lt-ltb (get_or a 16 0) 8388608 (omega arith)
          ∙ sym (lt-ltb (nanos_of (duration_of a) + 0) 8388608000000000 (omega arith)) ∙ e
      go false true x y e =
          let s = seconds-most h b q y in
          let n = nanos-most h b q y in
          lt-ltb (get_or b 16 0) 8388608 (omega arith)
          ∙ sym (lt-ltb (0 + nanos_of (duration_of b)) 8388608000000000 (omega arith)) ∙ e
      go false false x y e = e

  counts-put : (s : List ℕ) → put_counts (added (counts_in a) (counts_in b)) s
      ≡ put_disabled_of disabled
      (put_count_of 24 (number_at a 24 + number_at b 24) (put_count_of 22 (number_at a 22 + number_at b 22) (put_count_of 20 (number_at a 20 + number_at b 20) (put_count_of 18 (number_at a 18 + number_at b 18) s))))
  unfolding put_counts
  counts-put s =
      go (has_bit 8 a) (has_bit 8 b)
      (put_count_of 24 (number_at a 24 + number_at b 24) (put_count_of 22 (number_at a 22 + number_at b 22) (put_count_of 20 (number_at a 20 + number_at b 20) (put_count_of 18 (number_at a 18 + number_at b 18) s))))
    where
      go : (x y : Bool) (s : List ℕ) → cond (x || y) (marked 8 (put_count_of 26 (cond x (number_at a 26) 0 + cond y (number_at b 26) 0) s)) s
          ≡ put_disabled_of (either_by ◌+◌ (given x (number_at a 26)) (given y (number_at b 26))) s
      go true true s = refl
      go true false s = ap (λ (n : ℕ). marked 8 (put_count_of 26 n s)) (add-zero (number_at a 26))
      go false true s = ap (λ (n : ℕ). marked 8 (put_count_of 26 n s)) (zero-add (number_at b 26))
      go false false s = refl

  pub disabled-fits : is_count (added (counts_in a) (counts_in b)).disabled ≡ if_any is_count disabled
  disabled-fits = go (has_bit 8 a) (has_bit 8 b)
    where
      go : (x y : Bool) → is_count (cond x (number_at a 26) 0 + cond y (number_at b 26) 0) ≡ if_any is_count (either_by ◌+◌ (given x (number_at a 26)) (given y (number_at b 26)))
      go true true = refl
      go true false = ap is_count (add-zero (number_at a 26))
      go false true = ap is_count (zero-add (number_at b 26))
      go false false = refl

  -- the record whole
  pub head-record : head_of a b (added (counts_in a) (counts_in b)) (nanos_in a + nanos_in b) (zeros 32)
      ≡ record_at 1 0 report
      (fields_of (number_at a 18 + number_at b 18) (number_at a 20 + number_at b 20) (number_at a 22 + number_at b 22) (number_at a 24 + number_at b 24) name stamp time disabled)
  unfolding head_of
  head-record =
      counts-put (put_total a b (nanos_in a + nanos_in b) (put_start a b (put_name a (set (zeros 32) 0 1))))
      ∙ ap (λ (s : List ℕ). put_disabled_of disabled
      (put_count_of 24 (number_at a 24 + number_at b 24) (put_count_of 22 (number_at a 22 + number_at b 22) (put_count_of 20 (number_at a 20 + number_at b 20) (put_count_of 18 (number_at a 18 + number_at b 18) s)))))
      (time-put (put_start a b (put_name a (set (zeros 32) 0 1)))
      ∙ ap (put_time_of time) (stamp-put (put_name a (set (zeros 32) 0 1)) ∙ ap (put_stamp_of stamp) (name-put (set (zeros 32) 0 1))))
      ∙ all-put (number_at a 18 + number_at b 18) (number_at a 20 + number_at b 20) (number_at a 22 + number_at b 22) (number_at a 24 + number_at b 24) name stamp time disabled
