-- The merged report's own record. Assumes nothing.
use Prim.Native.Nat.{ℕ, suc, ◌+◌, ◌-◌, ◌/◌, ◌%◌, ◌≤◌}
use mathlib.Core.Path.{◌≡◌, refl, sym, ap, subst, ◌∙◌}
use mathlib.Core.Bool.{Bool, true, false, cond, ◌&&◌, false≢true}
use mathlib.Core.List.{List, [], ◌∷◌, ◌++◌}
use mathlib.Core.Option.{Option, none, some}
use native.Mathlib.Omega.{arith}
use borrow.Author.Tests.{leb-true, le-leb, ltb-true, eqb-true}
use lib.Dec.{leb, eqb}
use lib.ListN.{length, get_or, drop, length-append}
use Rattle.tree_merge.specs.of_area.Area.{zeros}
use Rattle.tree_merge.specs.of_timestamp.Timestamp.{in_range}
use Rattle.tree_merge.specs.of_timestamp.declared.Moment.{Moment}
use Rattle.tree_merge.specs.of_schema.Report.{Text}
use Rattle.tree_merge.specs.of_schema.Schema.{Form, text, number, time, timestamp, uuid, flag, may, Row, width, width_if, behind, bit_of, after, fine_bit, fine_from, fine, report, table_of}
use Rattle.tree_merge.specs.of_schema.Records.{Span, Of, Fields, given, is_set, value_at, good_value, zero_at, good_slot, good_from, bits_in, good, slot_words, words_from, encode}
use Rattle.tree_merge.specs.of_schema.Texts.{fields_of, stored, stored_in, placed_at, sound_slot, sound, record_at}
use Rattle.tree_merge.specs.of_schema.Elements.{report_fields}
use Rattle.tree_merge.specs.of_schema.Elements as named
use Rattle.tree_merge.proofs.of_schema.Laws.{length-zeros, length-slot}
use Rattle.tree_merge.proofs.of_schema.TextLaws.{record-back, record-good}
use Rattle.tree_merge.specs.of_starts.Starts.{is_earlier}
use Rattle.tree_merge.specs.of_tree_counts.Counts.{is_count}
use Rattle.tree_merge.specs.of_tree_report.Report.{Duration, TestSuite, Report}
use Rattle.tree_merge.specs.of_tree_report.Fields.{kind_of, is_report}
use Rattle.tree_merge.specs.of_tree_report.Layout.{good_record}
use Rattle.tree_merge.proofs.of_tree_report.EncodeLists.{both, and_left, and_right}
use Rattle.tree_merge.specs.Moved.{is_text}
use Rattle.tree_merge.specs.Merged.{either_by, nanos_in, added_time, earlier, merged_report}
use Rattle.tree_merge.specs.Answer.{if_any, is_time, counts_fit, time_fits}
use Rattle.merge_claims.specs.inside.Stands.{Clean, Stands, Held}
use Rattle.merge_claims.specs.inside.Fair.{Fair}
use Rattle.merge_claims.proofs.Texts.{clean-both}
use Rattle.merge_claims.proofs.Rows.{clean-slot}
use Rattle.merge_claims.proofs.Records.{table-held}

-- ---- 32 words
length_from : (n b : ℕ) (xs : List Row) (f : Fields Span xs) → fine_from n b xs ≡ true → length (words_from n xs f) ≡ 32 - n
length_from n b [] f h = length-zeros (32 - n)
length_from n b (x ∷ xs) f h =
    let next = after b (bit_of x.presence) in
    let bits = fine_bit b (bit_of x.presence) in
    let rest = fine_from (behind x) next xs in
    let h2 = and_right (leb n x.word) (leb (behind x) 32 && (bits && rest)) h in
    let up : n ≤ x.word = leb-true n x.word (and_left (leb n x.word) (leb (behind x) 32 && (bits && rest)) h) in
    let most : behind x ≤ 32 = leb-true (behind x) 32 (and_left (leb (behind x) 32) (bits && rest) h2) in
    let front = zeros (x.word - n) in
    let own = slot_words x.presence x.form f.0 in
    let others = words_from (behind x) xs f.1 in
    let a : length front ≡ x.word - n = length-zeros (x.word - n) in
    let w = width_if x.presence (width x.form) in
    let b : length own ≡ w = length-slot x.presence x.form f.0 in
    let c : length others ≡ 32 - behind x = length_from (behind x) next xs f.1 (and_right bits rest (and_right (leb (behind x) 32) (bits && rest) h2)) in
    let d : length (own ++ others) ≡ length own + length others = length-append own others in
    length-append front (own ++ others) ∙ omega arith

pub length-record : (kind fill : ℕ) (xs : List Row) (f : Fields Text xs) → fine xs ≡ true → length (record_at kind fill xs f) ≡ 32
unfolding record_at encode
length-record kind fill xs f h = ap (λ (n : ℕ). suc (suc n)) (length_from 2 0 xs (placed_at fill xs f) h)

-- ---- the fields of a layout's report
module _ (t z r : List ℕ) (c : Clean t) (h : Held t r) (e : is_report r ≡ true) where
  rows : good_from t r 2 report ≡ true
  unfolding good
  rows =
      and_right (eqb (get_or r 1 0) (bits_in report r)) (good_from t r 2 report)
      (subst (λ (k : ℕ). good (table_of k) t r ≡ true) (eqb-true (kind_of r) 1 e) (table-held t r h))

  abbrev of_name : Bool
  of_name = good_slot t r (may 0) text 2

  abbrev of_uuid : Bool
  of_uuid = good_slot t r (may 1) uuid 4

  abbrev of_moment : Bool
  of_moment = good_slot t r (may 3) timestamp 8

  abbrev of_time : Bool
  of_time = good_slot t r (may 4) time 16

  abbrev behind_time : Bool
  behind_time = good_from t r 18 (drop 4 report)

  pub fair : (suites : List TestSuite) → Fair (named.report_of (fields_of report (t ++ z) r) suites)
  fair suites = record { name = clean-slot t z r c (may 0) text 2 slot0; moment = of-moment (is_set 3 r) slot2; time = of-time (is_set 4 r) slot3 }
    where
      slot0 : of_name ≡ true
      slot0 = and_left of_name (of_uuid && (of_moment && (of_time && behind_time))) rows

      slots : (of_moment && (of_time && behind_time)) ≡ true
      slots = and_right of_uuid (of_moment && (of_time && behind_time)) (and_right of_name (of_uuid && (of_moment && (of_time && behind_time))) rows)

      slot2 : of_moment ≡ true
      slot2 = and_left of_moment (of_time && behind_time) slots

      slot3 : of_time ≡ true
      slot3 = and_left of_time behind_time (and_right of_moment (of_time && behind_time) slots)

      of-moment : (b : Bool) → cond b (in_range (value_at timestamp r 8)) (zero_at r 8 8) ≡ true → sound_slot (may 3) timestamp (given b (value_at timestamp r 8)) ≡ true
      of-moment true q = q
      of-moment false q = refl

      of-time : (b : Bool) → cond b (good_value t time (value_at time r 16)) (zero_at r 16 2) ≡ true → sound_slot (may 4) time (given b (value_at time r 16)) ≡ true
      of-time true q = q
      of-time false q = refl

-- ---- the merged report's fields
sound-name : (o : Option Text) → Clean (stored (may 0) text o) → sound_slot (may 0) text o ≡ true
sound-name none c = refl
sound-name (some s) c = both c.0 c.1

sound-moment : (x y : Option Moment) → sound_slot (may 3) timestamp x ≡ true → sound_slot (may 3) timestamp y ≡ true → sound_slot (may 3) timestamp (either_by earlier x y) ≡ true
sound-moment none y p q = q
sound-moment (some a) none p q = p
sound-moment (some a) (some b) p q = go (is_earlier b a)
  where
    go : (w : Bool) → in_range (cond w b a) ≡ true
    go true = q
    go false = p

sound-time : (x y : Option Duration) → sound_slot (may 4) time x ≡ true → sound_slot (may 4) time y ≡ true → if_any is_time (either_by added_time x y) ≡ true
    → sound_slot (may 4) time (either_by added_time x y) ≡ true
sound-time none y p q e = q
sound-time (some a) none p q e = p
sound-time (some a) (some b) p q e =
    let l = ltb-true ((nanos_in a + nanos_in b) / 1000000000) 8388608 e in
    both (le-leb ((nanos_in a + nanos_in b) / 1000000000) 8388607 (omega arith)) (le-leb ((nanos_in a + nanos_in b) % 1000000000) 999999999 (omega arith))

sound-disabled : (o : Option ℕ) → if_any is_count o ≡ true → sound_slot (may 8) number o ≡ true
sound-disabled none e = refl
sound-disabled (some n) e = e

pub merged-sound : (a b : Report) → Fair a → Fair b → counts_fit (merged_report a b) ≡ true → time_fits (merged_report a b) ≡ true
    → sound report (report_fields (merged_report a b)) ≡ true
unfolding merged_report
merged-sound a b p q n s =
    let m = (merged_report a b).counts in
    let skipped = is_count m.skipped && if_any is_count m.disabled in
    let errors = is_count m.errors && skipped in
    let failures = is_count m.failures && errors in
    let n1 = and_right (is_count m.tests) failures n in
    let n2 = and_right (is_count m.failures) errors n1 in
    let n3 = and_right (is_count m.errors) skipped n2 in
    both (sound-name a.name p.name)
    (both (sound-moment a.timestamp b.timestamp p.moment q.moment)
    (both (sound-time a.time b.time p.time q.time s)
    (both (and_left (is_count m.tests) failures n)
    (both (and_left (is_count m.failures) errors n1)
    (both (and_left (is_count m.errors) skipped n2)
    (both (and_left (is_count m.skipped) (if_any is_count m.disabled) n3)
    (both (sound-disabled m.disabled (and_right (is_count m.skipped) (if_any is_count m.disabled) n3)) refl)))))))

-- of its fields only the name is a text
stored-none : (k : ℕ) (f : Form) → is_text f ≡ false → (v : Option (Of Text f)) → stored (may k) f v ≡ []
stored-none k f e none = refl
stored-none k text e (some v) = absurd (false≢true (sym e))
stored-none k number e (some v) = refl
stored-none k time e (some v) = refl
stored-none k timestamp e (some v) = refl
stored-none k uuid e (some v) = refl
stored-none k flag e (some v) = refl

pub head-texts : (r : Report) → stored_in report (report_fields r) ≡ stored (may 0) text r.name ++ []
head-texts r =
    let a = stored-none 1 uuid refl r.uuid in
    let b = stored-none 3 timestamp refl r.timestamp in
    let c = stored-none 4 time refl r.time in
    let d = stored-none 8 number refl r.counts.disabled in
    λ i. stored (may 0) text r.name ++ (a i ++ (b i ++ (c i ++ (d i ++ []))))

pub head-clean : (r : Report) → Clean (stored (may 0) text r.name) → Clean (stored_in report (report_fields r))
head-clean r c = subst Clean (sym (head-texts r)) (clean-both (stored (may 0) text r.name) [] c (refl, refl))

-- ---- its record
module _ (m : Report) (s : sound report (report_fields m) ≡ true) (u : List ℕ) (h : Stands u 0 (stored_in report (report_fields m))) where
  abbrev head : List ℕ
  head = record_at 1 0 report (report_fields m)

  good-table : good report u head ≡ true
  good-table = record-good report refl 1 0 (report_fields m) s u h.before h.after (h.whole, h.start, h.clean.0)

  pub head-shown : (y : List ℕ) → fields_of report (u ++ y) head ≡ report_fields m
  head-shown y = record-back report refl 1 0 (report_fields m) s u h.before h.after (h.whole, h.start, h.clean.0) y

  head-good : good_record u head ≡ true
  unfolding good_record record_at encode
  head-good = good-table

  pub head-held : Held u head
  unfolding record_at encode
  head-held = record { long = length-record 1 0 report (report_fields m) refl; kind = refl; alive = refl; good = head-good }

  pub head-report : is_report head ≡ true
  unfolding record_at encode
  head-report = refl
