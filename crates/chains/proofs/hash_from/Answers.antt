use Rattle.chains.proofs.Hashing.{hashing-more, hashing-done}
use Rattle.chains.proofs.hash_from.Goals as goal

pub loop-b-preserved : goal.loop-b-preserved
loop-b-preserved c = hashing-more c.loop-b.invariant c.loop-b-test.true

pub returns : goal.returns
returns c = hashing-done c.loop-b.invariant c.loop-b-test.false
