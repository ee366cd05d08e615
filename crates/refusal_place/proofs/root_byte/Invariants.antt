use Rattle.refusal_place.proofs.Finding.{Looking}
use Rattle.refusal_place.proofs.root_byte.Given as goal

abbrev pub invariant-loop-i : goal.invariant-loop-i
invariant-loop-i l = Looking l.events l.i
