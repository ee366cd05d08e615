-- The same counts in another order give the same sheet. Assumes nothing.
use Prim.Native.Nat.{ℕ, suc, ◌+◌}
use mathlib.Core.Path.{◌≡◌, refl, sym, ap, ◌∙◌}
use mathlib.Core.Bool.{Bool, cond, ◌||◌, or_assoc, or_comm}
use mathlib.Core.List.{List, [], ◌∷◌, ◌++◌}
use native.Mathlib.Omega.{arith}
use lib.Dec.{leb}
use lib.ListN.{length}
use Rattle.tree_counts.specs.of_refusal.Refusal.{refused, late}
use Rattle.tree_counts.specs.of_refusal.declared.Cause.TheVariants as cause
use Rattle.tree_counts.specs.Counts.{disabled_of, added}
use Rattle.tree_counts.specs.declared.Counts.{Counts}
use Rattle.tree_counts.proofs.Order.{disabled-added}
use Rattle.sheet_sums.specs.Sheet.{sum_of, release_sheet}
use Rattle.sheet_sums.specs.AnyOrder.{Reordered, nothing, same, swapped, then, AnyOrder}
use Rattle.sheet_sums.proofs.Running.{limited}

swap : (a b c : Counts) → added a (added b c) ≡ added b (added a c)
swap a b c =
    let h₁ : a.tests + (b.tests + c.tests) ≡ b.tests + (a.tests + c.tests) = omega arith in
    let h₂ : a.failures + (b.failures + c.failures) ≡ b.failures + (a.failures + c.failures) = omega arith in
    let h₃ : a.errors + (b.errors + c.errors) ≡ b.errors + (a.errors + c.errors) = omega arith in
    let h₄ : a.skipped + (b.skipped + c.skipped) ≡ b.skipped + (a.skipped + c.skipped) = omega arith in
    let h₅ : (a.presence || (b.presence || c.presence)) ≡ (b.presence || (a.presence || c.presence)) =
    sym (or_assoc a.presence b.presence c.presence) ∙ ap (λ (p : Bool). p || c.presence) (or_comm a.presence b.presence) ∙ or_assoc b.presence a.presence c.presence in
    let h₆ : disabled_of a + disabled_of (added b c) ≡ disabled_of b + disabled_of (added a c) = omega (arith, disabled-added b c, disabled-added a c) in
    cc

sum-order : {cs ds : List Counts} → Reordered cs ds → sum_of cs ≡ sum_of ds
sum-order nothing = refl
sum-order (same c r) = ap (added c) (sum-order r)
sum-order (swapped c d cs) = swap c d (sum_of cs)
sum-order (then r s) = sum-order r ∙ sum-order s

length-order : {cs ds : List Counts} → Reordered cs ds → length cs ≡ length ds
length-order nothing = refl
length-order (same c r) = ap suc (length-order r)
length-order (swapped c d cs) = refl
length-order (then r s) = length-order r ∙ length-order s

same-sheet : {cs ds : List Counts} → Reordered cs ds → release_sheet cs ≡ release_sheet ds
unfolding release_sheet
same-sheet {cs} {ds} r =
    ap (λ (n : ℕ). cond (leb n 4096) (limited (sum_of cs)) (refused (late cause.TooManyReports))) (length-order r)
    ∙ ap (λ (s : Counts). cond (leb (length ds) 4096) (limited s) (refused (late cause.TooManyReports))) (sum-order r)

pub any_order : AnyOrder
any_order = record { sheet = λ r. same-sheet r }

-- ---- every order is reached: each report may come to the front, before any order of the others
unchanged : (cs : List Counts) → Reordered cs cs
unchanged [] = nothing
unchanged (c ∷ cs) = same c (unchanged cs)

pub to_front : (bs : List Counts) (c : Counts) (cs : List Counts) → Reordered (bs ++ (c ∷ cs)) (c ∷ (bs ++ cs))
to_front [] c cs = unchanged (c ∷ cs)
to_front (b ∷ bs) c cs = then (same b (to_front bs c cs)) (swapped b c (bs ++ cs))
