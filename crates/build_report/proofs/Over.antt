-- After the end: each call but a new report is refused with 15. Assumes nothing.
use Prim.Native.Nat.{ℕ, ◌-◌}
use mathlib.Core.Bool.{Bool, true, false, cond, ◌&&◌, ◌||◌}
use mathlib.Core.List.{List}
use mathlib.Core.Path.{◌≡◌, refl, ap, ap₂, ◌∙◌}
use native.Mathlib.Omega.{arith}
use borrow.Author.Tests.{le-ltb, leb-true}
use lib.Dec.{leb, ltb, eqb}
use Rattle.tree_placed.specs.of_refusal.Refusal.{nowhere, Outcome}
use Rattle.tree_placed.specs.of_refusal.declared.Cause.TheVariants as cause
use Rattle.tree_placed.specs.of_timestamp.declared.Moment.{Moment}
use Rattle.tree_placed.specs.of_uuids.declared.Words.{Words}
use Rattle.tree_placed.specs.of_tree_record.Kinds as kind
use Rattle.build_draft.specs.of_tree_counts.declared.Outcome.{Outcome as Status}
use Rattle.build_draft.specs.declared.Builder.{Builder}
use Rattle.build_draft.specs.declared.Element.{Element}
use Rattle.build_draft.specs.declared.Element.TheVariants as element
use Rattle.build_draft.specs.declared.Holder.{Holder}
use Rattle.build_draft.specs.declared.TextField.{TextField}
use Rattle.build_draft.specs.declared.NumberField.{NumberField}
use Rattle.build_draft.specs.declared.NumberField.TheVariants as number
use Rattle.build_draft.specs.declared.NonSuccessKind.{NonSuccessKind}
use Rattle.build_draft.specs.declared.FlakyOrRerun.{FlakyOrRerun}
use Rattle.build_draft.specs.Draft.{Draft, no_builder, ◌>>=◌, asks, room_for, is_record, kind_at, is_of, last_of, mark_of}
use Rattle.build_draft.specs.Parts.{putting, place_for, may_stand_behind, has_text, word_for, bit_for, is_output, has_times}
use Rattle.build_draft.specs.Calls as call
use Rattle.build_draft.specs.Calls.{is_suites, is_held}
use Rattle.build_report.specs.Stands.{Ended}
use Rattle.build_report.specs.Builders.{IsOver, FromEnd}

-- ---- no area has a record of that number
no_record : (b : Builder) (words : List ℕ) → is_record b words nowhere ≡ false
unfolding is_record
no_record b words = go (leb b.records (room_for words)) refl
  where
    go : (t : Bool) → leb b.records (room_for words) ≡ t → (ltb nowhere b.records && t) ≡ false
    go true e = let l = leb-true b.records (room_for words) e in ap (λ (u : Bool). u && true) (le-ltb nowhere b.records (omega arith))
    go false e = none-behind (ltb nowhere b.records)
      where
        none-behind : (u : Bool) → (u && false) ≡ false
        none-behind true = refl
        none-behind false = refl

module _ (b : Builder) (words : List ℕ) {i : ℕ} (e : i ≡ nowhere) where
  not-record : is_record b words i ≡ false
  not-record = ap (is_record b words) e ∙ no_record b words

  not-of : (k : ℕ) → is_of b words i k ≡ false
  unfolding is_of
  not-of k = ap (λ (t : Bool). t && eqb (kind_at words i) k) not-record

-- ---- a test that fails, and what would have followed
refuses : {t : Bool} (m : Outcome Draft) → t ≡ false → IsOver (asks t cause.NotLayout m)
unfolding asks
refuses m e = ap (λ (u : Bool). asks u cause.NotLayout m) e

-- whatever the test says, what follows is refused
refuses-both : (t : Bool) {m : Outcome Draft} → IsOver m → IsOver (asks t cause.NotLayout m)
unfolding asks
refuses-both true h = h
refuses-both false h = refl

stays : {o : Outcome Draft} (f : Draft → Outcome Draft) → IsOver o → IsOver (o >>= f)
unfolding ◌>>=◌
stays f e = ap (λ (x : Outcome Draft). x >>= f) e

module _ (d : Draft) (h : Ended d.builder) where
  abbrev b : Builder
  b = d.builder

  abbrev words : List ℕ
  words = d.words

  mark-none : (e : Element) → mark_of b e ≡ nowhere
  mark-none element.Report = h.report
  mark-none element.Suite = h.suite
  mark-none element.Case = h.case
  mark-none element.Status = h.main
  mark-none element.Last = ap (λ (k : ℕ). cond (eqb k nowhere) nowhere (last_of b)) h.report

  no_main : call.is_non_success d ≡ false
  unfolding call.is_non_success
  no_main = ap₂ (λ (t u : Bool). t || u) (not-of b words h.main kind.failure) (not-of b words h.main kind.error)

  no-holder : (κ : ℕ) → is_held κ b words ≡ false
  no-holder κ = go (is_suites κ)
    where
      go : (t : Bool) → cond t (is_of b words b.suite kind.suite) (is_of b words b.case kind.case) ≡ false
      go true = not-of b words h.suite kind.suite
      go false = not-of b words h.case kind.case

  no-times : (e : Element) → call.is_timed (mark_of b e) d ≡ false
  no-times e = ap (λ (t : Bool). t && has_times (kind_at words (mark_of b e))) (not-record b words (mark-none e))

  no_text : (e : Element) (o k : ℕ) (lossy : Bool) (s : List ℕ) → IsOver (putting (mark_of b e) o k lossy s d)
  unfolding putting
  no_text e o k lossy s = refuses _ (not-record b words (mark-none e))

  suite-over : (name : List ℕ) → IsOver (call.add_test_suite name d)
  unfolding call.add_test_suite call.open_suite
  suite-over name = stays _ (refuses _ (not-of b words h.report kind.report))

  case-over : (name : List ℕ) (s : Status) → IsOver (call.add_test_case name s d)
  unfolding call.add_test_case call.open_case
  case-over name s = stays _ (stays _ (refuses _ (not-of b words h.suite kind.suite)))

  run-over : (k : NonSuccessKind) → IsOver (call.add_rerun k d)
  unfolding call.add_rerun
  run-over k = refuses _ (not-of b words h.case kind.case)

  kind-over : (f : FlakyOrRerun) → IsOver (call.set_rerun_kind f d)
  unfolding call.set_rerun_kind
  kind-over f = refuses _ no_main

  pair-over : (κ : ℕ) (key value : List ℕ) → IsOver (call.add_pair κ key value d)
  unfolding call.add_pair
  pair-over κ key value = refuses _ (ap (λ (t : Bool). t && may_stand_behind κ (kind_at words (place_for d - 1))) (no-holder κ))

  property-over : (x : Holder) (key value : List ℕ) → IsOver (call.add_property x key value d)
  unfolding call.add_property
  property-over x key value = pair-over (call.property_kind x) key value

  extra-over : (x : Holder) (key value : List ℕ) → IsOver (call.add_extra x key value d)
  unfolding call.add_extra
  extra-over x key value = pair-over (call.extra_kind x) key value

  text-over : (e : Element) (f : TextField) (s : List ℕ) → IsOver (call.set_text e f s d)
  unfolding call.set_text
  text-over e f s = refuses-both (has_text (kind_at words (mark_of b e)) f) (no_text e (word_for f) (bit_for f) false s)

  lossy-over : (e : Element) (f : TextField) (s : List ℕ) → IsOver (call.set_output_lossy e f s d)
  unfolding call.set_output_lossy
  lossy-over e f s = refuses-both (is_output f && has_text (kind_at words (mark_of b e)) f) (no_text e (word_for f) (bit_for f) true s)

  timestamp-over : (e : Element) (m : Moment) → IsOver (call.set_timestamp e m d)
  unfolding call.set_timestamp
  timestamp-over e m = refuses _ (no-times e)

  time-over : (e : Element) (seconds nanos : ℕ) → IsOver (call.set_time e seconds nanos d)
  unfolding call.set_time
  time-over e seconds nanos = refuses _ (no-times e)

  uuid-over : (w : Words) → IsOver (call.set_uuid w d)
  unfolding call.set_uuid
  uuid-over w = refuses _ (not-of b words h.report kind.report)

  number-over : (f : NumberField) (n : ℕ) → IsOver (call.set_number f n d)
  unfolding call.set_number
  number-over number.Assertions n = refuses _ (not-of b words h.case kind.case)
  number-over number.Disabled n = refuses _ (not-of b words h.suite kind.suite)

  finish-over : IsOver (call.finish d)
  unfolding call.finish
  finish-over = refuses _ (not-of b words h.report kind.report)

pub after_end : {d : Draft} → Ended d.builder → FromEnd d
after_end {d} h = record {
  add_test_suite = suite-over d h;
  add_test_case = case-over d h;
  add_rerun = run-over d h;
  set_rerun_kind = kind-over d h;
  add_property = property-over d h;
  add_extra = extra-over d h;
  set_text = text-over d h;
  set_output_lossy = lossy-over d h;
  set_timestamp = timestamp-over d h;
  set_time = time-over d h;
  set_uuid = uuid-over d h;
  set_number = number-over d h;
  finish = finish-over d h;
}

-- the builder of a refusal
pub after_refusal : Ended no_builder
after_refusal = record { report = refl; suite = refl; case = refl; main = refl }
