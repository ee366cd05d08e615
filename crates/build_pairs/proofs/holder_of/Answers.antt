use Rattle.build_pairs.proofs.Places.{own_of}
use Rattle.build_pairs.proofs.holder_of.Goals as goal

pub returns-then-is_suites : goal.returns-then-is_suites
returns-then-is_suites c = let args = c.args in own_of args.k args.b c.is_suites.ensures c.if-is_suites.true

pub returns : goal.returns
returns c = let args = c.args in own_of args.k args.b c.is_suites.ensures c.if-is_suites.false
