use Rattle.build_pairs.proofs.Places.{held_of}
use Rattle.build_pairs.proofs.is_held.Goals as goal

pub returns-then-is_suites : goal.returns-then-is_suites
returns-then-is_suites c =
    let args = c.args in
    held_of args.k args.b c.is_suites.ensures c.if-is_suites.true args.records.now c.is_of.ensures

pub returns : goal.returns
returns c =
    let args = c.args in
    held_of args.k args.b c.is_suites.ensures c.if-is_suites.false args.records.now c.is_of-2.ensures
