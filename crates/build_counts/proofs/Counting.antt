-- Counts read from a record, and put into one. Assumes nothing.
use Prim.Native.Nat.{ℕ, ◌*◌}
use mathlib.Core.Path.{◌≡◌, refl, sym, ap, ◌∙◌}
use mathlib.Core.Bool.{Bool, true, false, not}
use mathlib.Core.List.{List, ◌++◌}
use native.Mathlib.Omega.{arith}
use lib.ListN.{take, drop}
use Rattle.std.specs.Prelude.{Ok, Err}
use Rattle.build_draft.specs.of_refusal.Refusal.{verdict_of}
use Rattle.build_draft.specs.of_refusal.declared.Cause.TheVariants as cause
use Rattle.build_draft.specs.of_refusal.declared.Verdict.TheVariants.{Accepted, Refused}
use Rattle.build_draft.specs.of_tree_record.Words as word
use Rattle.build_draft.specs.of_tree_record.Bits as bit
use Rattle.build_draft.specs.of_tree_record.Kinds as kind
use Rattle.build_draft.specs.of_tree_record.Record.{has_bit, marked, number_at}
use Rattle.build_draft.specs.of_tree_put.Put.{put_count_of}
use Rattle.build_draft.specs.of_tree_counts.declared.Counts.{Counts}
use Rattle.build_draft.specs.of_tree_counts.declared.Counted.{Counted}
use Rattle.build_draft.specs.of_tree_counts.Counts.{are_counts, added, with_suite, kept, counted_from}
use Rattle.build_draft.proofs.of_tree_counts.Adding.{adding, refusing}
use Rattle.build_draft.specs.declared.Builder.{Builder}
use Rattle.build_draft.specs.Draft.{◌>>=◌, draft_of, is_of}
use Rattle.build_draft.specs.Parts.{counts_in, counts_at, put_disabled, put_counts, counting, summing}

-- ---- what a method of the counts gave
module _ (i : ℕ) (b : Builder) (words text : List ℕ) (old more : Counts) {made : Counted} (m : made ≡ counted_from old (with_suite old more)) where
  -- a refusal of the methods is 17
  pub not-counted : (left : List ℕ) → made.verdict ≡ Refused → draft_of (Err cause.CountLimit) left text ≡ counting i (with_suite old more) (record { builder = b; words = words; text = text })
  unfolding draft_of counting ◌>>=◌
  not-counted left h = go (are_counts (added old more)) refl
    where
      go : (t : Bool) → are_counts (added old more) ≡ t → draft_of (Err cause.CountLimit) left text ≡ counting i (with_suite old more) (record { builder = b; words = words; text = text })
      go true e =
          let a = adding old more e in
          let v : made.verdict ≡ Accepted = (ap (λ (x : Counted). x.verdict) m ∙ ap verdict_of a) in
          let z : ◌≡◌ {A = ℕ} 0 1 = cc in
          absurd (omega arith)
      go false e = rw (refusing old more e) refl

  pub was-counted : {left : List ℕ} → made.verdict ≡ Accepted → left ≡ take (i * 32) words ++ put_counts made.counts (drop (i * 32) words)
      → draft_of (Ok b) left text ≡ counting i (with_suite old more) (record { builder = b; words = words; text = text })
  unfolding draft_of counting ◌>>=◌
  was-counted {left} h l = go (are_counts (added old more)) refl
    where
      go : (t : Bool) → are_counts (added old more) ≡ t → draft_of (Ok b) left text ≡ counting i (with_suite old more) (record { builder = b; words = words; text = text })
      go true e =
          let k : made.counts ≡ added old more = (ap (λ (x : Counted). x.counts) m ∙ ap (kept old) (adding old more e)) in
          rw (adding old more e, l, k) refl
      go false e =
          let v : made.verdict ≡ Refused = (ap (λ (x : Counted). x.verdict) m ∙ ap verdict_of (refusing old more e)) in
          let z : ◌≡◌ {A = ℕ} 0 1 = cc in
          absurd (omega arith)
