use Prim.Native.Nat.{◌-◌}
use lib.ListN.{length}
use Rattle.reference.proofs.Checking.{Checking}
use Rattle.reference.proofs.refs_ok.Given as goal

abbrev pub invariant-loop-i : goal.invariant-loop-i
invariant-loop-i l = Checking l.s l.i

abbrev pub decreases-loop-i : goal.decreases-loop-i
decreases-loop-i l = length l.s - l.i
