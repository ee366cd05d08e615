use Rattle.write_suite.proofs.Suites.{childless-not, childless-may}
use Rattle.list_sums.specs.inside.Rows.{records_in}
use Rattle.write_suite.proofs.is_childless.Goals as goal

pub returns-then-has_bit : goal.returns-then-has_bit
returns-then-has_bit c =
    let args = c.args in
    childless-not (records_in args.words.now) args.r.now (rw (c.has_bit.ensures, c.has_bit-2.ensures) at c.if-has_bit.true)

pub returns : goal.returns
returns c =
    let args = c.args in
    let has-bit = c.has_bit in
    childless-may (records_in args.words.now) args.r.now _ _ (rw (has-bit.ensures, c.has_bit-2.ensures) at c.if-has_bit.false)
    c.kind_of_first-property.ensures c.kind_of_first-case.ensures
