use Rattle.explain_spot.proofs.Counting.{Lines}
use Rattle.explain_spot.proofs.line_behind.Given as goal

abbrev pub invariant-loop-b : goal.invariant-loop-b
invariant-loop-b l = Lines l.s l.line l.b-index
