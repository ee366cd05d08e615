use Prim.Native.Nat.{◌-◌}
use native.Mathlib.Omega.{arith}
use lib.ListN.{length-drop, length-take}
use Rattle.test_replay.proofs.replay_all.Goals as goal

pub overflow_add-at : goal.overflow_add-at
overflow_add-at g c = omega (arith, simp (length-take, length-drop) at c.replay_first.ensures)

pub loop-at-smaller : goal.loop-at-smaller
loop-at-smaller g c = omega (arith, simp (length-take, length-drop) at c.replay_first.ensures)

pub loop-at-preserved : goal.loop-at-preserved
loop-at-preserved g c = omega (arith, simp (length-take, length-drop) at c.replay_first.ensures)
