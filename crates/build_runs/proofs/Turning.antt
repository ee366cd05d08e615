-- Runs turned one after another. Assumes nothing.
use Prim.Native.Nat.{ℕ, suc, ◌+◌, ◌-◌, ◌≤◌, ◌<◌}
use mathlib.Core.Path.{◌≡◌, refl, sym, ap, ◌∙◌}
use mathlib.Core.List.{List}
use native.Mathlib.Omega.{arith}
use lib.ListN.{length, length-append, length-take, length-drop, length-set}
use Rattle.build_records.specs.of_build_draft.declared.FlakyOrRerun.{FlakyOrRerun}
use Rattle.build_records.specs.of_build_draft.Draft.{on_record_of}
use Rattle.build_records.specs.of_build_draft.Parts.{turned, turn_runs}

-- the area keeps its length
turned-length : (f : FlakyOrRerun) (i : ℕ) (words : List ℕ) → length (on_record_of i (turned f) words) ≡ length words
turned-length f i words = simp (length-append, length-take, length-set, length-drop) (omega arith)

-- the runs before number i are turned: old is the area as it was, new as it is
pub record Turning (f : FlakyOrRerun) (from to : ℕ) (old new : List ℕ) (i : ℕ) : Type 0 where
  pub same : length new ≡ length old
  pub ahead : turn_runs f i (to - i) new ≡ turn_runs f from (to - from) old

-- none yet
pub turning-start : (f : FlakyOrRerun) (from to : ℕ) (words : List ℕ) → Turning f from to words words from
turning-start f from to words = record { same = refl; ahead = refl }

module _ {f : FlakyOrRerun} {from to : ℕ} {old new : List ℕ} {i : ℕ} (k : Turning f from to old new i) where
  -- run i, then those behind it
  one-turned : i < to → turn_runs f i (to - i) new ≡ turn_runs f (i + 1) (to - (i + 1)) (on_record_of i (turned f) new)
  unfolding turn_runs
  one-turned h = let e : to - i ≡ suc (to - (i + 1)) = omega arith in ap (λ (n : ℕ). turn_runs f i n new) e

  -- one run more
  pub turning-more : i < to → {new' : List ℕ} → new' ≡ on_record_of i (turned f) new → Turning f from to old new' (i + 1)
  turning-more h e =
      record {
        same = ap length e ∙ turned-length f i new ∙ k.same;
        ahead = ap (turn_runs f (i + 1) (to - (i + 1))) e ∙ sym (one-turned h) ∙ k.ahead;
      }

  -- all of them
  pub turning-done : to ≤ i → new ≡ turn_runs f from (to - from) old
  unfolding turn_runs
  turning-done h = let e : to - i ≡ 0 = omega arith in sym (ap (λ (n : ℕ). turn_runs f i n new) e) ∙ k.ahead
