use Rattle.names.proofs.Comparing.{Comparing}
use Rattle.names.proofs.same.Given as goal

abbrev pub invariant-loop-i : goal.invariant-loop-i
invariant-loop-i l = Comparing l.a l.b l.i
