use Prim.Native.Nat.{◌-◌}
use lib.ListN.{length}
use Rattle.clean_order.proofs.Passing.{Passing}
use Rattle.clean_order.proofs.next_of.Given as goal

abbrev pub invariant-loop-i : goal.invariant-loop-i
invariant-loop-i l = Passing l.key l.at l.passed l.i l.left

abbrev pub decreases-loop-i : goal.decreases-loop-i
decreases-loop-i l = length l.key - l.i
