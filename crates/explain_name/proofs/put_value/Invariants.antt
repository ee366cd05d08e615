use Prim.Native.Nat.{◌-◌}
use lib.ListN.{length}
use Rattle.explain_name.proofs.Showing.{Showing}
use Rattle.explain_name.proofs.put_value.Given as goal

abbrev pub invariant-loop-i : goal.invariant-loop-i
invariant-loop-i l = Showing l.s l.initial.out l.initial.mark l.out l.i l.mark

abbrev pub decreases-loop-i : goal.decreases-loop-i
decreases-loop-i l = length l.s - l.i
