use Rattle.key_order.proofs.Commoning.{Commoning}
use Rattle.key_order.proofs.common.Given as goal

abbrev pub invariant-loop-i : goal.invariant-loop-i
invariant-loop-i l = Commoning l.a l.b l.n l.i
