use Rattle.read_chains.proofs.Chaining.{Sought}
use Rattle.read_chains.proofs.is_chained.Given as goal

abbrev pub invariant-loop : goal.invariant-loop
invariant-loop l = Sought l.attributes l.source l.first l.j l.m l.key l.s
