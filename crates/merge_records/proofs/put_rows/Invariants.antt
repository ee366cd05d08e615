use Rattle.merge_records.proofs.Copying.{Copying}
use lib.ListN.{length}
use Prim.Native.Nat.{◌-◌}
use Rattle.merge_records.proofs.put_rows.Given as goal

abbrev pub invariant-loop-end : goal.invariant-loop-end
invariant-loop-end l = Copying l.text l.words (record { word = l.initial.next; fill = l.initial.fill }) l.initial.out l.initial.bytes l.out l.bytes l.next l.fill l.at

abbrev pub decreases-loop-end : goal.decreases-loop-end
decreases-loop-end l = length l.words - l.at
