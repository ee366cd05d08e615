-- The family of the runs of a failure or error, and one more run. Assumes nothing.
use Prim.Native.Nat.{ℕ, ◌+◌, ◌*◌}
use mathlib.Core.Path.{◌≡◌, refl, sym, ◌∙◌}
use mathlib.Core.Bool.{Bool, true, false, not}
use mathlib.Core.List.{List}
use borrow.Author.Tests.{eq-eqb, ne_eqb, not-true, not-false}
use lib.Dec.{leb}
use lib.ListN.{drop}
use Rattle.std.specs.Prelude.{Err}
use Rattle.build_records.specs.of_refusal.Refusal.{nowhere, Outcome}
use Rattle.build_records.specs.of_refusal.declared.Cause.TheVariants as cause
use Rattle.build_records.specs.of_tree_record.Bits as bit
use Rattle.build_records.specs.of_tree_record.Kinds as kind
use Rattle.build_records.specs.of_tree_record.Record.{has_bit, unmarked}
use Rattle.build_records.specs.of_build_draft.declared.Builder.{Builder}
use Rattle.build_records.specs.of_build_draft.declared.NonSuccessKind.{NonSuccessKind}
use Rattle.build_records.specs.of_build_draft.declared.FlakyOrRerun.{FlakyOrRerun}
use Rattle.build_records.specs.of_build_draft.declared.FlakyOrRerun.TheVariants.{Flaky}
use Rattle.build_records.specs.of_build_draft.Draft.{Draft, draft_of, asks, is_of, kind_at, on_record_of, last_of}
use Rattle.build_records.specs.of_build_draft.Parts.{taking, run_kind}
use Rattle.build_records.specs.of_build_draft.Calls.{is_non_success, family_of, add_rerun}
use Rattle.build_runs.specs.inside.Runs.{family_by, add_to_main}

module _ (b : Builder) (words text : List ℕ) where
  abbrev d : Draft
  d = record { builder = b; words = words; text = text }

  -- by the last run, where there is one
  pub family-runs : {f : FlakyOrRerun} {κ i : ℕ} → (b.main + 1 ≡ b.records → ⊥) → f ≡ family_by (leb κ kind.flaky_error) → κ ≡ kind_at words i → i ≡ last_of b → f ≡ family_of d
  family-runs n e q p = e ∙ rw (q, p, ne_eqb (b.main + 1) b.records n) refl

  -- by the flaky bit
  pub family-none : {f : FlakyOrRerun} {t : Bool} {part : List ℕ} → b.main + 1 ≡ b.records → f ≡ family_by t → t ≡ has_bit bit.flaky part → part ≡ drop (b.main * 32) words → f ≡ family_of d
  family-none n e q p = e ∙ rw (q, p, eq-eqb (b.main + 1) b.records n) refl

  module _ (k : NonSuccessKind) where
    -- no failure or error
    pub no_main : {t : Bool} → t ≡ is_non_success d → not t ≡ true → draft_of (Err cause.NotLayout) words text ≡ add_to_main k d
    unfolding draft_of asks add_to_main
    no_main {t} e h = rw (sym e ∙ not-true t h) refl

    -- a run of its family, which the flaky bit needn't tell any more
    pub to-main : {t : Bool} {x : Outcome Draft} {f : FlakyOrRerun} {κ : ℕ} {words' : List ℕ} → t ≡ is_non_success d → not t ≡ false → f ≡ family_of d
        → words' ≡ on_record_of b.main (unmarked bit.flaky) words → κ ≡ run_kind f k → x ≡ taking κ (record { builder = b; words = words'; text = text }) → x ≡ add_to_main k d
    unfolding asks add_to_main
    to-main {t} e h p q r s = s ∙ rw (sym e ∙ not-false t h, r, p, q) refl

    module _ {t : Bool} (e : t ≡ is_of b words b.case kind.case) where
      -- no open case
      pub no-case : not t ≡ true → draft_of (Err cause.NotLayout) words text ≡ add_rerun k d
      unfolding draft_of asks add_rerun
      no-case h = rw (sym e ∙ not-true t h) refl

      -- no main status element: success
      pub on-success : {x : Outcome Draft} {κ : ℕ} → not t ≡ false → b.main ≡ nowhere → κ ≡ run_kind Flaky k → x ≡ taking κ d → x ≡ add_rerun k d
      unfolding asks add_rerun
      on-success h n q s = s ∙ rw (sym e ∙ not-false t h, eq-eqb b.main nowhere n, q) refl

      -- a main status element
      pub on-main : {x : Outcome Draft} → not t ≡ false → (b.main ≡ nowhere → ⊥) → x ≡ add_to_main k d → x ≡ add_rerun k d
      unfolding asks add_rerun add_to_main
      on-main h n s = s ∙ rw (sym e ∙ not-false t h, ne_eqb b.main nowhere n) refl
