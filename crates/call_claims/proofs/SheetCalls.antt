-- What the release sheet refuses, and what it leaves then. Assumes nothing.
use Prim.Native.Nat.{ℕ}
use mathlib.Core.Path.{◌≡◌, refl}
use mathlib.Core.List.{List, [], ◌∷◌}
use mathlib.Core.Bool.{true}
use native.Mathlib.Omega.{arith}
use lib.Dec.{leb}
use lib.ListN.{length}
use Rattle.explain_text.specs.of_area.Area.{zeros, placing}
use Rattle.explain_text.specs.of_refusal.Refusal.{Refused, Outcome, accepted, refused}
use Rattle.explain_text.specs.of_refusal.declared.Cause.TheVariants as cause
use Rattle.tree_merge.specs.of_tree_counts.declared.Counts.{Counts}
use Rattle.tree_merge.specs.of_tree_counts.Counts.{are_counts}
use Rattle.sheet_text.specs.of_sheet_sums.declared.Sheet.{Sheet}
use Rattle.sheet_text.specs.of_sheet_sums.Sheet.{sum_of, release_sheet, no_sheet, sheet_in}
use Rattle.sheet_text.specs.Printed.{sheet_text, printing, sheet_area}
use Rattle.call_claims.specs.Demand1.{is_one_of, Late, Ends, completes, refuses}
use Rattle.call_claims.proofs.LateCalls.{Within, ends-leaving, within-late, within-cond}
use Rattle.call_claims.proofs.ListCalls.{out-zero, within-placing}

within-sheet : {ns : List ℕ} → is_one_of 11 ns ≡ true → is_one_of 17 ns ≡ true → (cs : List Counts) → Within ns (release_sheet cs)
unfolding release_sheet
within-sheet h k cs =
    within-cond (leb (length cs) 4096) (within-cond (are_counts (sum_of cs)) completes (within-late cause.CountLimit k)) (within-late cause.TooManyReports h)

no-sheet : (o : Outcome Sheet) (why : Refused) → o ≡ refused why → sheet_in o ≡ no_sheet
no-sheet (accepted s) why e = let z : ◌≡◌ {A = ℕ} 0 1 = cc in absurd (omega arith)
no-sheet (refused r) why e = refl

pub release-ends : (cs : List Counts) → Ends (Late (11 ∷ 17 ∷ [])) (sheet_in (release_sheet cs) ≡ no_sheet) (release_sheet cs)
release-ends cs = ends-leaving (within-sheet refl refl cs) (no-sheet (release_sheet cs))

within-printing : {ns : List ℕ} {o : Outcome Sheet} (n : ℕ) → is_one_of 16 ns ≡ true → Within ns o → Within ns (printing o n)
unfolding printing
within-printing n h (completes {a = s}) = within-placing h n (sheet_text s)
within-printing n h (refuses g u) = refuses g u

area-zero : (o : Outcome Sheet) (n : ℕ) (why : Refused) → printing o n ≡ refused why → sheet_area o n ≡ zeros n
unfolding printing sheet_area
area-zero (accepted s) n why e = out-zero (placing cause.OutputFull n (sheet_text s)) n (sheet_text s) why e
area-zero (refused r) n why e = refl

pub print-ends : (cs : List Counts) (n : ℕ) → Ends (Late (11 ∷ 16 ∷ 17 ∷ [])) (sheet_area (release_sheet cs) n ≡ zeros n) (printing (release_sheet cs) n)
print-ends cs n = ends-leaving (within-printing n refl (within-sheet refl refl cs)) (area-zero (release_sheet cs) n)
