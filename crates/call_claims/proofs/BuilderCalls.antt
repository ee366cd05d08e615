-- Each call of a builder completes, or refuses with one of its numbers and both areas zero. Assumes nothing.
use Prim.Native.Nat.{ℕ, ◌/◌, min}
use mathlib.Core.Path.{◌≡◌, refl, ap, ◌∙◌}
use mathlib.Core.List.{List, [], ◌∷◌}
use mathlib.Core.Bool.{Bool, true, false}
use native.Mathlib.Omega.{arith}
use lib.ListN.{length, set, length-set}
use lib.Dec.{ltb, leb, eqb}
use Rattle.explain_text.specs.of_area.Area.{zeros}
use Rattle.explain_text.specs.of_area.Limits.{most_records}
use Rattle.explain_text.specs.of_text_filter.Filter.{filtered}
use Rattle.explain_text.specs.of_refusal.Refusal.{nowhere, Refused, Outcome, accepted, refused, late}
use Rattle.explain_text.specs.of_refusal.declared.Cause.TheVariants as cause
use Rattle.explain_text.specs.of_timestamp.declared.Moment.{Moment}
use Rattle.explain_text.specs.of_uuids.declared.Words.{Words}
use Rattle.explain_text.specs.of_tree_record.Kinds as kind
use Rattle.tree_merge.specs.of_tree_counts.declared.Outcome.{Outcome as Status}
use Rattle.port_values.specs.of_build_draft.declared.Element.{Element}
use Rattle.port_values.specs.of_build_draft.declared.Holder.{Holder}
use Rattle.port_values.specs.of_build_draft.declared.TextField.{TextField}
use Rattle.port_values.specs.of_build_draft.declared.NonSuccessKind.{NonSuccessKind}
use Rattle.port_values.specs.of_build_draft.declared.FlakyOrRerun.{FlakyOrRerun}
use Rattle.port_values.specs.of_build_draft.declared.NumberField.{NumberField}
use Rattle.port_values.specs.of_build_draft.declared.NumberField.TheVariants.{Assertions, Disabled}
use Rattle.port_values.specs.of_build_draft.Draft.{Draft, ◌>>=◌, asks, room_for, is_record, last_of, with_builder}
use Rattle.port_values.specs.of_build_draft.Parts.{taking, place_for}
use Rattle.port_values.specs.of_build_draft.Calls as call
use Rattle.call_claims.specs.Demand1.{is_one_of, completes, BuildZero, Builds, Continues, BuilderCalls}
use Rattle.call_claims.proofs.LateCalls.{Within, ends-leaving, within-late, within-asks, within-then, within-cond, within-taking, within-keeping, within-putting}
use Rattle.call_claims.proofs.LateCalls.{within-putting-lossy, within-naming, within-naming-one, within-suite, within-counting, within-summing}

both_zero : (n m : ℕ) (o : Outcome Draft) (why : Refused) → o ≡ refused why → BuildZero n m o
both_zero n m (accepted d) why e = let z : ◌≡◌ {A = ℕ} 0 1 = cc in absurd (omega arith)
both_zero n m (refused q) why e = record { words = refl; text = refl }

builds : {ns : List ℕ} (n m : ℕ) {o : Outcome Draft} → Within ns o → Builds ns n m o
builds n m {o} h = ends-leaving h (both_zero n m o)

-- ---- a new report
pub unnamed-ends : (words text : ℕ) → Builds (12 ∷ []) words text (call.unnamed_report words text)
unfolding call.unnamed_report
unnamed-ends words text = builds words text (within-then (within-taking refl kind.report _) λ d. completes)

-- where it completes there is a record to name
data Opened : Outcome Draft → Type 0 where
  opened : {d : Draft} → is_record d.builder d.words (last_of d.builder) ≡ true → Opened (accepted d)
  spent : Opened (refused (late cause.RecordsSpent))

one-record : (words : List ℕ) (k : ℕ) → ltb 0 (room_for words) ≡ true → leb 1 (room_for (set words 0 k)) ≡ true
one-record words k e = ap (λ (n : ℕ). leb 1 (min (n / 32) most_records)) (length-set words 0 k) ∙ e

unnamed-opens : (words text : ℕ) → Opened (call.unnamed_report words text)
unfolding call.unnamed_report taking asks ◌>>=◌ is_record
unnamed-opens words text = go (ltb 0 (room_for (zeros words))) refl
  where
    first : Draft
    first = record {
      builder = record { records = 1; bytes = 0; report = nowhere; suite = nowhere; case = nowhere; main = nowhere };
      words = set (zeros words) 0 kind.report;
      text = zeros text;
    }

    go : (b : Bool) → ltb 0 (room_for (zeros words)) ≡ b
        → Opened (asks b cause.RecordsSpent (accepted first) >>= λ d. accepted (with_builder d (call.marks 0 nowhere nowhere nowhere d.builder)))
    go true e = opened (one-record (zeros words) kind.report e)
    go false e = spent

within-opened : {ns : List ℕ} {o : Outcome Draft} {f : Draft → Outcome Draft} → is_one_of 12 ns ≡ true → Opened o
    → ((d : Draft) → is_record d.builder d.words (last_of d.builder) ≡ true → Within ns (f d)) → Within ns (o >>= f)
unfolding ◌>>=◌
within-opened h (opened {d = d} e) k = k d e
within-opened h spent k = within-late cause.RecordsSpent h

pub new-ends : (name : List ℕ) (words text : ℕ) → Builds (2 ∷ 12 ∷ 13 ∷ []) words text (call.new_report name words text)
unfolding call.new_report
new-ends name words text = builds words text (within-opened refl (unnamed-opens words text) λ d e. within-naming-one refl refl name d e)

-- ---- calls on a builder
module _ (d : Draft) where
  ending : {ns : List ℕ} {o : Outcome Draft} → Within ns o → Continues d ns o
  ending h = builds (length d.words) (length d.text) h

  suite-ends : (name : List ℕ) → Continues d (2 ∷ 12 ∷ 13 ∷ 15 ∷ 17 ∷ []) (call.add_test_suite name d)
  unfolding call.add_test_suite call.open_suite
  suite-ends name =
      ending (within-then
      (within-asks _ cause.NotLayout refl (within-then (within-summing refl d) λ e. within-then (within-taking refl kind.suite e) λ f. completes)) λ e.
      within-naming refl refl refl name e)

  case-ends : (name : List ℕ) (s : Status) → Continues d (2 ∷ 12 ∷ 13 ∷ 15 ∷ 17 ∷ []) (call.add_test_case name s d)
  unfolding call.add_test_case call.open_case call.open_main
  case-ends name s =
      ending (within-then (within-then
      (within-asks _ cause.NotLayout refl (within-then (within-counting _ d (within-suite refl _ _)) λ e. within-then (within-taking refl kind.case e) λ f. completes)) λ e.
      within-naming refl refl refl name e) λ e.
      within-cond (eqb (call.main_kind s) 0) completes (within-then (within-taking refl (call.main_kind s) e) λ f. completes))

  run_ends : (k : NonSuccessKind) → Continues d (12 ∷ 15 ∷ []) (call.add_rerun k d)
  unfolding call.add_rerun
  run_ends k = ending (within-asks _ cause.NotLayout refl (within-cond (eqb d.builder.main nowhere) (within-taking refl _ _) (within-asks _ cause.NotLayout refl (within-taking refl _ _))))

  kind-ends : (f : FlakyOrRerun) → Continues d (15 ∷ []) (call.set_rerun_kind f d)
  unfolding call.set_rerun_kind
  kind-ends f = ending (within-asks _ cause.NotLayout refl completes)

  pair_ends : (κ : ℕ) (key value : List ℕ) → Within (2 ∷ 12 ∷ 13 ∷ 15 ∷ []) (call.add_pair κ key value d)
  unfolding call.add_pair
  pair_ends κ key value =
      within-asks _ cause.NotLayout refl
      (within-then (within-keeping refl refl false key d) λ e.
      within-then (within-keeping refl refl false value e) λ f.
      within-cond (ltb (call.old_place κ (filtered key) f.text d) (place_for d)) completes (within-then (within-taking refl κ f) λ g. completes))

  property-ends : (h : Holder) (key value : List ℕ) → Continues d (2 ∷ 12 ∷ 13 ∷ 15 ∷ []) (call.add_property h key value d)
  unfolding call.add_property
  property-ends h key value = ending (pair_ends (call.property_kind h) key value)

  extra-ends : (h : Holder) (key value : List ℕ) → Continues d (2 ∷ 12 ∷ 13 ∷ 15 ∷ []) (call.add_extra h key value d)
  unfolding call.add_extra
  extra-ends h key value = ending (pair_ends (call.extra_kind h) key value)

  text-ends : (e : Element) (f : TextField) (s : List ℕ) → Continues d (2 ∷ 13 ∷ 15 ∷ []) (call.set_text e f s d)
  unfolding call.set_text
  text-ends e f s = ending (within-asks _ cause.NotLayout refl (within-putting refl refl refl _ _ _ s d))

  lossy-ends : (e : Element) (f : TextField) (s : List ℕ) → Continues d (13 ∷ 15 ∷ []) (call.set_output_lossy e f s d)
  unfolding call.set_output_lossy
  lossy-ends e f s = ending (within-asks _ cause.NotLayout refl (within-putting-lossy refl refl _ _ _ s d))

  timestamp-ends : (e : Element) (m : Moment) → Continues d (4 ∷ 15 ∷ []) (call.set_timestamp e m d)
  unfolding call.set_timestamp
  timestamp-ends e m = ending (within-asks _ cause.NotLayout refl (within-asks _ cause.BadTimestamp refl completes))

  time-ends : (e : Element) (seconds nanos : ℕ) → Continues d (5 ∷ 15 ∷ []) (call.set_time e seconds nanos d)
  unfolding call.set_time
  time-ends e seconds nanos = ending (within-asks _ cause.NotLayout refl (within-asks _ cause.BadTime refl completes))

  uuid-ends : (w : Words) → Continues d (15 ∷ []) (call.set_uuid w d)
  unfolding call.set_uuid
  uuid-ends w = ending (within-asks _ cause.NotLayout refl completes)

  number-ends : (f : NumberField) (n : ℕ) → Continues d (15 ∷ []) (call.set_number f n d)
  unfolding call.set_number
  number-ends Assertions n = ending (within-asks _ cause.NotLayout refl completes)
  number-ends Disabled n = ending (within-asks _ cause.NotLayout refl completes)

  finish-ends : Continues d (15 ∷ 17 ∷ []) (call.finish d)
  unfolding call.finish
  finish-ends = ending (within-asks _ cause.NotLayout refl (within-then (within-summing refl d) λ e. completes))

  pub builder-calls : BuilderCalls d
  builder-calls =
      record {
        add_test_suite = suite-ends;
        add_test_case = case-ends;
        add_rerun = run_ends;
        set_rerun_kind = kind-ends;
        add_property = property-ends;
        add_extra = extra-ends;
        set_text = text-ends;
        set_output_lossy = lossy-ends;
        set_timestamp = timestamp-ends;
        set_time = time-ends;
        set_uuid = uuid-ends;
        set_number = number-ends;
        finish = finish-ends;
      }
