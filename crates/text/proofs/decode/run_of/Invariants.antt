use Rattle.text.proofs.Writing.{Running}
use Rattle.text.proofs.decode.run_of.Given as goal

abbrev pub invariant-loop-i : goal.invariant-loop-i
invariant-loop-i l = Running l.clean l.s l.i
