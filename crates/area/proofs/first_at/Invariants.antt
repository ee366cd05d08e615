use Rattle.area.proofs.Seeking.{Seeking}
use Rattle.area.proofs.first_at.Given as goal

abbrev pub invariant-loop-i : goal.invariant-loop-i
invariant-loop-i l = Seeking l.byte l.s l.i
