use Rattle.table.proofs.Scanning.{Scanning}
use Rattle.table.proofs.first_bad.Given as goal

abbrev pub invariant-loop-j : goal.invariant-loop-j
invariant-loop-j l = Scanning l.attributes l.size l.first l.end l.j
