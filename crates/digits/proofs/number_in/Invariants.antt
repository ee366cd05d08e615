use Rattle.digits.proofs.Numbers.{Reading}
use Rattle.digits.proofs.number_in.Given as goal

abbrev pub invariant-loop-b : goal.invariant-loop-b
invariant-loop-b l = Reading l.base l.most l.s l.v l.b-index
