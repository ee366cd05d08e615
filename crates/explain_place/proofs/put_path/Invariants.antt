use Rattle.explain_place.proofs.Walking.{Walking}
use Rattle.explain_place.proofs.put_path.Given as goal

abbrev pub invariant-loop-i : goal.invariant-loop-i
invariant-loop-i l = Walking l.events l.attributes l.source l.elements l.n l.initial.out l.initial.mark l.out l.i l.mark
