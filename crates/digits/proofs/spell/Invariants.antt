use Rattle.digits.proofs.Printing.{Spelling}
use Rattle.digits.proofs.spell.Given as goal

abbrev pub invariant-loop-i : goal.invariant-loop-i
invariant-loop-i l = Spelling l.k l.n l.bytes l.i l.rest
