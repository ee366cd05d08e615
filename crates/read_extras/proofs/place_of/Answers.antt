use Rattle.read_extras.proofs.Placing.{placing-hit, placing-more, placing-done}
use Rattle.read_extras.proofs.place_of.Goals as goal

pub returns-then-is_key : goal.returns-then-is_key
returns-then-is_key c = placing-hit c.loop-i.invariant c.is_key.ensures c.loop-i-test.true c.if-is_key.true

pub loop-i-preserved : goal.loop-i-preserved
loop-i-preserved c = placing-more c.loop-i.invariant c.is_key.ensures c.loop-i-test.true c.if-is_key.false

pub returns : goal.returns
returns c = placing-done c.loop-i.invariant c.loop-i-test.false
