use Rattle.chains.proofs.Hashing.{Hashing}
use Rattle.chains.proofs.hash_from.Given as goal

abbrev pub invariant-loop-b : goal.invariant-loop-b
invariant-loop-b l = Hashing l.from l.bytes l.h l.b-index
