use Rattle.key_order.proofs.Commoning.{commoning-more, commoning_unlike, commoning-done}
use Rattle.key_order.proofs.common.Goals as goal

pub returns-then-a-i : goal.returns-then-a-i
returns-then-a-i c = commoning_unlike c.loop-i.invariant c.loop-i-test.true c.if-a-i.true

pub loop-i-preserved : goal.loop-i-preserved
loop-i-preserved c = commoning-more c.loop-i.invariant c.loop-i-test.true c.if-a-i.false

pub returns : goal.returns
returns c = commoning-done c.loop-i.invariant c.loop-i-test.false
