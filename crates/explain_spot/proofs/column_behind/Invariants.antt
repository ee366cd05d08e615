use Rattle.explain_spot.proofs.Counting.{Columns}
use Rattle.explain_spot.proofs.column_behind.Given as goal

abbrev pub invariant-loop-b : goal.invariant-loop-b
invariant-loop-b l = Columns l.s l.column l.b-index
