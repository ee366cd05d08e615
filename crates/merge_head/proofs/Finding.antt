-- The first live record. Assumes nothing.
use Prim.Native.Nat.{ℕ, ◌+◌, ◌-◌, ◌≤◌, ◌<◌}
use mathlib.Core.Bool.{Bool, true, false, cond}
use mathlib.Core.List.{List, [], ◌∷◌}
use mathlib.Core.Path.{◌≡◌, refl, sym, ap, ◌∙◌}
use native.Mathlib.Omega.{arith}
use borrow.Author.Tests.{lt-ltb, le-ltb}
use lib.Dec.{ltb}
use lib.ListN.{length, get_or, take, drop}
use Rattle.tree_merge.specs.of_list_sums.inside.Rows.{stands, records_in}
use Rattle.tree_merge.proofs.of_list_sums.Records.{stands-room, records-here, records-over}
use Rattle.tree_values.specs.of_tree_record.Record.{live}
use Rattle.tree_merge.specs.of_tree_report.ReportOf.{only}
use Rattle.merge_head.specs.inside.Head.{first_of}

-- none of the records before `at` is live
pub record Finding (words : List ℕ) (at : ℕ) : Type 0 where
  pub fits : at ≤ length words
  pub left : first_of (only live (records_in (drop at words))) ≡ first_of (only live (records_in words))

pub finding-start : (words : List ℕ) → Finding words 0
finding-start words = record { fits = omega arith; left = refl }

module _ {words : List ℕ} {at : ℕ} (f : Finding words at) (s : stands (take (length words - at) (drop at words)) ≡ true) where
  here : first_of
      (cond (live (take (at + 32 - at) (drop at words))) (take (at + 32 - at) (drop at words) ∷ only live (records_in (drop (at + 32) words))) (only live (records_in (drop (at + 32) words))))
      ≡ first_of (only live (records_in words))
  here = ap (λ (rs : List (List ℕ)). first_of (only live rs)) (sym (records-here words at s)) ∙ f.left

  abbrev chosen : Bool → List ℕ
  chosen t = first_of (cond t (take (at + 32 - at) (drop at words) ∷ only live (records_in (drop (at + 32) words))) (only live (records_in (drop (at + 32) words))))

  pub finding-found : live (take (at + 32 - at) (drop at words)) ≡ true → take (at + 32 - at) (drop at words) ≡ first_of (only live (records_in words))
  finding-found e = sym (ap chosen e) ∙ here

  pub finding-pass : live (take (at + 32 - at) (drop at words)) ≡ false → Finding words (at + 32)
  finding-pass e = record { fits = stands-room words at s; left = sym (ap chosen e) ∙ here }

pub finding-over : {words : List ℕ} {at : ℕ} → Finding words at → stands (take (length words - at) (drop at words)) ≡ false → [] ≡ first_of (only live (records_in words))
finding-over {words} {at} f s = ap (λ (rs : List (List ℕ)). first_of (only live rs)) (sym (records-over words at s)) ∙ f.left

-- by the kind that was read
pub alive : {k : ℕ} (p : List ℕ) → k ≡ get_or p 0 0 → k < 16 → live p ≡ true
alive {k} p e h = ap (λ (n : ℕ). ltb n 16) (sym e) ∙ lt-ltb k 16 h

pub gone : {k : ℕ} (p : List ℕ) → k ≡ get_or p 0 0 → 16 ≤ k → live p ≡ false
gone {k} p e h = ap (λ (n : ℕ). ltb n 16) (sym e) ∙ le-ltb k 16 h
