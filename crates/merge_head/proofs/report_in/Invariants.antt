use Rattle.merge_head.proofs.Finding.{Finding}
use lib.ListN.{length}
use Prim.Native.Nat.{◌-◌}
use Rattle.merge_head.proofs.report_in.Given as goal

abbrev pub invariant-loop-end : goal.invariant-loop-end
invariant-loop-end l = Finding l.words l.at

abbrev pub decreases-loop-end : goal.decreases-loop-end
decreases-loop-end l = length l.words - l.at
