-- What merging two trees refuses, and what it leaves then. Assumes nothing.
use Prim.Native.Nat.{ℕ, ◌/◌, min}
use mathlib.Core.Path.{◌≡◌, refl}
use mathlib.Core.List.{List, [], ◌∷◌}
use mathlib.Core.Bool.{Bool, true, false, cond}
use mathlib.Core.Option.{Option}
use native.Mathlib.Omega.{arith}
use lib.Dec.{leb}
use lib.ListN.{length}
use Rattle.explain_text.specs.of_area.Area.{zeros}
use Rattle.explain_text.specs.of_area.Answer.{Answer, gives, refuses as fails}
use Rattle.explain_text.specs.of_area.Limits.{most_records, most_bytes}
use Rattle.explain_text.specs.of_refusal.Refusal.{Refused, refused}
use Rattle.explain_text.specs.of_refusal.declared.Cause.TheVariants as cause
use Rattle.explain_text.specs.of_tree_report.Encode.{Encoding}
use Rattle.explain_text.specs.of_tree_report.Layout.{layout}
use Rattle.explain_text.specs.of_tree_report.Report.{Report}
use Rattle.tree_merge.specs.Answer.{merged_of, merged_tree, if_any, counts_fit, time_fits, limited, placed, merge_answer, outcome_of, merged, left_for, records_left, text_left}
use Rattle.call_claims.specs.Demand1.{Late, Ends, completes, MergeZero}
use Rattle.call_claims.proofs.LateCalls.{Within, ends-leaving, within-late}

abbrev numbers : List ℕ
numbers = 12 ∷ 13 ∷ 15 ∷ 17 ∷ 22 ∷ []

abbrev Answers : Answer (Unit {0}) → Type 0
Answers x = Within numbers (outcome_of x)

either : (b : Bool) (x y : Answer (Unit {0})) → Answers x → Answers y → Answers (cond b x y)
either true x y h k = h
either false x y h k = k

placed-ends : (e : Encoding) (words bytes : ℕ) → Answers (placed e words bytes)
unfolding placed
placed-ends e words bytes =
    either (leb (length e.records) (min (words / 32) most_records)) _ _
    (either (leb (length e.texts) (min bytes most_bytes)) _ _ completes (within-late cause.TextFull refl))
    (within-late cause.RecordsSpent refl)

limited-ends : (m : Option Report) (x : Answer (Unit {0})) → Answers x → Answers (limited m x)
unfolding limited
limited-ends m x h =
    either (if_any counts_fit m) _ _ (either (if_any time_fits m) _ _ h (within-late cause.TimeLimit refl)) (within-late cause.CountLimit refl)

left-zero : (x : Answer (Unit {0})) (n : ℕ) (f : List ℕ) (why : Refused) → outcome_of x ≡ refused why → left_for x n f ≡ zeros n
left-zero (gives u) n f why e = let z : ◌≡◌ {A = ℕ} 0 1 = cc in absurd (omega arith)
left-zero (fails c) n f why e = refl

module _ (first first_text_of second second_text_of : List ℕ) (words bytes : ℕ) where
  abbrev x : Answer (Unit {0})
  x = merge_answer first first_text_of second second_text_of words bytes

  answer-ends : Answers x
  unfolding merge_answer
  answer-ends =
      either (layout first first_text_of) _ _
      (either (layout second second_text_of) _ _
      (limited-ends (merged_of first first_text_of second second_text_of) _ (placed-ends (merged_tree first first_text_of second second_text_of) words bytes))
      (within-late cause.NotLayout refl))
      (within-late cause.NotLayout refl)

  zero : (why : Refused) → outcome_of x ≡ refused why → MergeZero first first_text_of second second_text_of words bytes
  unfolding records_left text_left
  zero why e = record { records = left-zero x words _ why e; text = left-zero x bytes _ why e }

  pub merge-ends : Ends (Late numbers) (MergeZero first first_text_of second second_text_of words bytes) (merged first first_text_of second second_text_of words bytes)
  merge-ends = ends-leaving answer-ends zero
