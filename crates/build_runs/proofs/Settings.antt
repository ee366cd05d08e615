-- The family of a case's runs is set. Assumes nothing.
use Prim.Native.Nat.{ℕ, ◌+◌, ◌-◌, ◌≤◌}
use mathlib.Core.Path.{◌≡◌, refl, sym, ◌∙◌}
use mathlib.Core.Bool.{Bool, true, false, not, ◌&&◌, ◌||◌}
use mathlib.Core.List.{List}
use native.Mathlib.Omega.{arith}
use borrow.Author.Tests.{eq-eqb, ne_eqb, leb-true, not-true, not-false}
use lib.Dec.{leb, ltb, eqb}
use Rattle.std.specs.Prelude.{Ok, Err}
use Rattle.build_records.specs.of_refusal.declared.Cause.TheVariants as cause
use Rattle.build_records.specs.of_tree_record.Kinds as kind
use Rattle.build_records.specs.of_build_draft.declared.Builder.{Builder}
use Rattle.build_records.specs.of_build_draft.declared.FlakyOrRerun.{FlakyOrRerun}
use Rattle.build_records.specs.of_build_draft.Draft.{Draft, draft_of, asks, is_record, is_of, kind_at, on_record_of, room_for}
use Rattle.build_records.specs.of_build_draft.Parts.{turn_runs}
use Rattle.build_records.specs.of_build_draft.Calls.{is_non_success, flagged, set_rerun_kind}

module _ (b : Builder) (words text : List ℕ) where
  abbrev d : Draft
  d = record { builder = b; words = words; text = text }

  module _ {t : Bool} (e : t ≡ is_non_success d) where
    -- all its records lie in the area
    pub few-records : not t ≡ false → b.records ≤ 65536
    unfolding is_non_success is_of is_record
    few-records h =
        go (ltb b.main b.records) (leb b.records (room_for words)) refl (eqb (kind_at words b.main) kind.failure) (eqb (kind_at words b.main) kind.error) (sym e ∙ not-false t h)
      where
        go : (s t : Bool) → leb b.records (room_for words) ≡ t → (u v : Bool) → ((s && t) && u) || ((s && t) && v) ≡ true → b.records ≤ 65536
        go s true q u v h = let l = leb-true b.records (room_for words) q in omega arith
        go true false q u v h = let z : ◌≡◌ {A = ℕ} 0 1 = cc in absurd (omega arith)
        go false false q u v h = let z : ◌≡◌ {A = ℕ} 0 1 = cc in absurd (omega arith)

    module _ (f : FlakyOrRerun) where
      -- no failure or error
      pub turns-none : not t ≡ true → draft_of (Err cause.NotLayout) words text ≡ set_rerun_kind f d
      unfolding draft_of asks set_rerun_kind
      turns-none h = rw (sym e ∙ not-true t h) refl

      -- there are runs: their kinds
      pub turns-runs : {words' : List ℕ} → not t ≡ false → (b.main + 1 ≡ b.records → ⊥) → words' ≡ turn_runs f (b.main + 1) (b.records - (b.main + 1)) words
          → draft_of (Ok b) words' text ≡ set_rerun_kind f d
      unfolding draft_of asks set_rerun_kind
      turns-runs h n q = rw (sym e ∙ not-false t h, ne_eqb (b.main + 1) b.records n, q) refl

      -- there are none: the flaky bit
      pub turns-flag : {words' : List ℕ} → not t ≡ false → b.main + 1 ≡ b.records → words' ≡ on_record_of b.main (flagged f) words → draft_of (Ok b) words' text ≡ set_rerun_kind f d
      unfolding draft_of asks set_rerun_kind
      turns-flag h n q = rw (sym e ∙ not-false t h, eq-eqb (b.main + 1) b.records n, q) refl
