use Rattle.copying.proofs.Copying.{Copied}
use Rattle.copying.proofs.copy_each.Given as goal

abbrev pub invariant-loop-i : goal.invariant-loop-i
invariant-loop-i l = Copied l.s l.initial.out l.out l.i
