use Prim.Native.Nat.{◌-◌}
use lib.ListN.{length}
use Rattle.list_sums.proofs.Sums.{Summing}
use Rattle.list_sums.proofs.sum_up.Given as goal

abbrev pub invariant-loop-end : goal.invariant-loop-end
invariant-loop-end l = Summing l.words l.s l.at

abbrev pub decreases-loop-end : goal.decreases-loop-end
decreases-loop-end l = length l.words - l.at
