use Prim.Native.Nat.{ℕ, ◌≤◌, ◌-◌}
use mathlib.Core.List.{List}
use native.Mathlib.Omega.{arith}
use borrow.Author.Rules.{rules}
use lib.ListN.{length, take, drop, length-drop, length-take}
use Rattle.writer.specs.of_area.Area.{first_at}
use Rattle.writer.proofs.of_area.Seeking.{first-within}
use Rattle.test_building.proofs.run.Goals as goal

-- a line ends within what is left
within : (s : List ℕ) (at : ℕ) → first_at 0x0A (take (length s - at) (drop at s)) ≤ length (take (length s - at) (drop at s))
within s at = first-within 0x0A (take (length s - at) (drop at s))

pub overflow_add-at : goal.overflow_add-at
overflow_add-at g c = omega (arith, c.first_at-end.ensures, simp (length-take, length-drop) at (within c.args.s.now c.loop-at.at))

pub overflow_add-at-in-loop-at : goal.overflow_add-at-in-loop-at
overflow_add-at-in-loop-at g c = omega (arith, c.first_at-end.ensures, simp (length-take, length-drop) at (within c.args.s.now c.loop-at.at))

pub loop-at-preserved : goal.loop-at-preserved
loop-at-preserved g c =
    (omega (arith, c.first_at-end.ensures, simp (length-take, length-drop) at (within c.args.s.now c.loop-at.at)), search rules, search rules)
