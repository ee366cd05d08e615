use Rattle.read_attributes.proofs.FreeKeys.{known-answer}
use Rattle.read_attributes.proofs.known_of.Goals as goal

pub returns-then-range-is_within : goal.returns-then-range-is_within
returns-then-range-is_within c = known-answer c.args.known c.args.range c.is_within.ensures c.if-range-is_within.true

pub returns : goal.returns
returns c = known-answer c.args.known c.args.range c.is_within.ensures c.if-range-is_within.false
