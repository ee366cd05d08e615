use Rattle.read_lists.proofs.Marking.{Killing}
use Rattle.read_lists.proofs.kill.Given as goal

abbrev pub invariant-loop-i : goal.invariant-loop-i
invariant-loop-i l = Killing l.initial.records l.records l.first l.end l.i
