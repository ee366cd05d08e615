use Rattle.explain_lines.proofs.Passing.{Passing}
use Rattle.explain_lines.proofs.line_in.Given as goal

abbrev pub invariant-loop-k : goal.invariant-loop-k
invariant-loop-k l = Passing l.text l.i l.at l._k
