use Rattle.merge_records.proofs.Counting.{Counting}
use lib.ListN.{length}
use Prim.Native.Nat.{◌-◌}
use Rattle.merge_records.proofs.needs_of.Given as goal

abbrev pub invariant-loop-end : goal.invariant-loop-end
invariant-loop-end l = Counting l.words l.records l.bytes l.at

abbrev pub decreases-loop-end : goal.decreases-loop-end
decreases-loop-end l = length l.words - l.at
