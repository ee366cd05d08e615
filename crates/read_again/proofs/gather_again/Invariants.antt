use Prim.Native.Nat.{◌-◌}
use Rattle.read_pieces.specs.of_table.Table.{count_of}
use Rattle.read_again.proofs.Looping.{Looping}
use Rattle.read_again.proofs.gather_again.Given as goal

abbrev pub invariant-loop-a : goal.invariant-loop-a
invariant-loop-a l = Looping l.events l.source l.from l.initial.out l.out l.at

abbrev pub decreases-loop-a : goal.decreases-loop-a
decreases-loop-a l = count_of l.events - l.at.event
