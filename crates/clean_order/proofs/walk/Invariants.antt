use Rattle.clean_order.proofs.Walking.{Walking}
use Rattle.clean_order.proofs.walk.Given as goal

abbrev pub invariant-loop : goal.invariant-loop
invariant-loop l = Walking l.a l.b l.n l.counter l.x l.y
