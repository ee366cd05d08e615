use Rattle.tree_values.proofs.of_area.Seeking.{first-within}
use Rattle.tree_values.specs.of_area.Area.{first_at}
use lib.ListN.{length, take, drop, length-drop, length-take}
use borrow.Author.Rules.{rules}
use native.Mathlib.Omega.{arith}
use mathlib.Core.List.{List}
use Prim.Native.Nat.{ℕ, ◌≤◌, ◌-◌}
use Rattle.test_starts.proofs.run.Goals as goal

-- a line ends within what is left
within : (s : List ℕ) (at : ℕ) → first_at 0x0A (take (length s - at) (drop at s)) ≤ length (take (length s - at) (drop at s))
within s at = first-within 0x0A (take (length s - at) (drop at s))

pub overflow_add-at : goal.overflow_add-at
overflow_add-at g c =
    let args = c.args in
    omega (arith, c.first_at-end.ensures, simp (length-take, length-drop) at (within args.s.now c.loop-at.at))

pub overflow_add-at-in-loop-at : goal.overflow_add-at-in-loop-at
overflow_add-at-in-loop-at g c =
    let args = c.args in
    omega (arith, c.first_at-end.ensures, simp (length-take, length-drop) at (within args.s.now c.loop-at.at))

pub loop-at-smaller : goal.loop-at-smaller
loop-at-smaller g c =
    let args = c.args in
    let loop = c.loop-at in
    let first-at = c.first_at-end in
    omega (arith, first-at.ensures, simp (length-take, length-drop) at (within args.s.now loop.at))

pub loop-at-preserved : goal.loop-at-preserved
loop-at-preserved g c =
    let args = c.args in
    let loop = c.loop-at in
    let first-at = c.first_at-end in
    (omega (arith, first-at.ensures, simp (length-take, length-drop) at (within args.s.now loop.at)), search rules)
