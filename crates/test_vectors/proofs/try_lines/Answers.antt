use Prim.Native.Nat.{ℕ, ◌≤◌, ◌-◌}
use mathlib.Core.Path.{sym}
use mathlib.Core.List.{List}
use native.Mathlib.Omega.{arith}
use lib.ListN.{length, take, drop, length-drop, length-take}
use lib.Seq.{length-take-le}
use Rattle.trim.specs.of_area.Area.{first_at}
use Rattle.trim.proofs.of_area.Seeking.{first-within}
use Rattle.test_vectors.proofs.try_lines.Goals as goal

-- a line ends within what is left
within : (s : List ℕ) (at : ℕ) → first_at 0x0A (take (length s - at) (drop at s)) ≤ length (take (length s - at) (drop at s))
within s at = first-within 0x0A (take (length s - at) (drop at s))

pub slice_bounds-try_line-end : goal.slice_bounds-try_line-end
slice_bounds-try_line-end g c =
    let args = c.args in
    let loop = c.loop-at in
    sym (length-take-le _ _ (omega (arith, c.first_at-end.ensures, within args.s.now loop.at)))

pub overflow_add-at : goal.overflow_add-at
overflow_add-at g c =
    let args = c.args in
    let loop = c.loop-at in
    omega (arith, c.first_at-end.ensures, simp (length-take, length-drop) at (within args.s.now loop.at))

pub overflow_add-at-in-loop-at : goal.overflow_add-at-in-loop-at
overflow_add-at-in-loop-at g c =
    let args = c.args in
    let loop = c.loop-at in
    omega (arith, c.first_at-end.ensures, simp (length-take, length-drop) at (within args.s.now loop.at))

pub loop-at-smaller : goal.loop-at-smaller
loop-at-smaller g c =
    let args = c.args in
    let loop = c.loop-at in
    omega (arith, c.first_at-end.ensures, simp (length-take, length-drop) at (within args.s.now loop.at))

pub loop-at-preserved : goal.loop-at-preserved
loop-at-preserved g c =
    let args = c.args in
    let loop = c.loop-at in
    omega (arith, c.first_at-end.ensures, simp (length-take, length-drop) at (within args.s.now loop.at))
