use Rattle.names.proofs.Searching.{Searching}
use Rattle.names.proofs.code_in.Given as goal

abbrev pub invariant-loop-k : goal.invariant-loop-k
invariant-loop-k l = Searching l.names l.lengths l.s l.at l.k
