use Rattle.read_free.proofs.Going.{Going}
use Rattle.read_free.proofs.free_chained.Given as goal

abbrev pub invariant-loop-j : goal.invariant-loop-j
invariant-loop-j l = Going l.attributes l.source l.first l.end l.m l.initial.work l.work l.j
