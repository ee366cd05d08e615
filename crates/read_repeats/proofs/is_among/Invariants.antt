use Rattle.read_repeats.proofs.Keys.{Seeking}
use Rattle.read_repeats.proofs.is_among.Given as goal

abbrev pub invariant-loop-i : goal.invariant-loop-i
invariant-loop-i l = Seeking l.attributes l.source l.first l.j l.key l.i
