-- Along the records, one by one. Assumes nothing.
use Prim.Native.Nat.{ℕ, ◌+◌, ◌-◌, ◌≤◌}
use mathlib.Core.Path.{◌≡◌, refl, sym, ap, ◌∙◌}
use mathlib.Core.List.{List, [], ◌∷◌}
use mathlib.Core.Bool.{true, false}
use native.Mathlib.Omega.{arith}
use lib.ListN.{length, take, drop}
use Rattle.list_sums.specs.inside.Rows.{stands, records_in}
use Rattle.list_sums.proofs.Records.{stands-room, records-here, records-over}
use Rattle.tree_layout.specs.of_timestamp.declared.Moment.{Moment}
use Rattle.start_ends.proofs.of_days.Cycle.{table}
use Rattle.start_ends.specs.of_instant.declared.Instant.{Instant}
use Rattle.start_ends.proofs.of_instant.Lent.{by-lent}
use Rattle.start_ends.specs.of_tree_stamp.Stamp.{cut_moment}
use Rattle.start_ends.specs.declared.Ends.{Ends}
use Rattle.std.specs.Prelude.{Option}
use Rattle.start_ends.specs.declared.Start.{Start}
use Rattle.start_ends.specs.inside.Ends.{start_of, start_by, no_ends, with_record, ends_from}

pub ends_next : (start : Moment → Start) (e : Option Ends) (r : List ℕ) (rs : List (List ℕ)) → ends_from start e (r ∷ rs) ≡ ends_from start (with_record start e r) rs
unfolding ends_from
ends_next start e r rs = refl

pub ends-over : (start : Moment → Start) (e : Option Ends) → ends_from start e [] ≡ e
unfolding ends_from
ends-over start e = refl

-- the records before `at` are gone along
pub record Going (start : Moment → Start) (words : List ℕ) (e : Option Ends) (at : ℕ) : Type 0 where
  pub fits : at ≤ length words
  pub left : ends_from start e (records_in (drop at words)) ≡ ends_from start no_ends (records_in words)

pub going_start : (start : Moment → Start) (words : List ℕ) (e : Option Ends) → e ≡ no_ends → Going start words e 0
going_start start words e q = rw q (record { fits = omega arith; left = refl })

module _ {start : Moment → Start} {words : List ℕ} {e : Option Ends} {at : ℕ} (g : Going start words e at) where
  pub going_more : {t : Option Ends} → stands (take (length words - at) (drop at words)) ≡ true → t ≡ with_record start e (take (at + 32 - at) (drop at words)) → Going start words t (at + 32)
  going_more {t} s q = rw q (record {
    fits = stands-room words at s;
    left = sym (ends_next start e (take (at + 32 - at) (drop at words)) (records_in (drop (at + 32) words)))
        ∙ ap (ends_from start e) (sym (records-here words at s)) ∙ g.left;
  })

  pub going_done : stands (take (length words - at) (drop at words)) ≡ false → e ≡ ends_from start no_ends (records_in words)
  going_done s = sym (ends-over start e) ∙ ap (ends_from start e) (sym (records-over words at s)) ∙ g.left

-- what gives the same starts gives the same ends
module _ {start other : Moment → Start} (same : (m : Moment) → start m ≡ other m) where
  same-record : (e : Option Ends) (r : List ℕ) → with_record start e r ≡ with_record other e r
  unfolding with_record
  same-record e r = rw (same (cut_moment r)) refl

  pub same_ends : (e : Option Ends) (rs : List (List ℕ)) → ends_from start e rs ≡ ends_from other e rs
  same_ends e [] = ends-over start e ∙ sym (ends-over other e)
  same_ends e (r ∷ rs) =
      ends_next start e r rs ∙ ap (λ (f : Option Ends). ends_from start f rs) (same-record e r) ∙ same_ends (with_record other e r) rs ∙ sym (ends_next other e r rs)

pub by-days : (m : Moment) → start_by table m ≡ start_of m
by-days m = ap (λ (i : Instant). record { moment = m; at = i }) (by-lent m)
