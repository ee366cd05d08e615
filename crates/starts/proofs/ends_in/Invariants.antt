use Prim.Native.Nat.{◌-◌}
use lib.ListN.{length}
use Rattle.start_ends.specs.inside.Ends.{start_by}
use Rattle.starts.proofs.Walking.{Going}
use Rattle.starts.proofs.ends_in.Given as goal

abbrev pub invariant-loop-end : goal.invariant-loop-end
invariant-loop-end l = Going (start_by l.days) l.words l.e l.at

abbrev pub decreases-loop-end : goal.decreases-loop-end
decreases-loop-end l = length l.words - l.at
