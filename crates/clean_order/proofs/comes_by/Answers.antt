use Rattle.clean_order.proofs.Walking.{by-cleaned, by-raw}
use Rattle.clean_order.proofs.comes_by.Goals as goal

pub returns-then-clean : goal.returns-then-clean
returns-then-clean c =
    let args = c.args in
    by-cleaned args.attributes.now args.source.now args.i args.j c.if-clean.true c.key_of.ensures c.key_of-then-clean.ensures
    c.comes_cleaned.ensures

pub returns : goal.returns
returns c =
    let args = c.args in
    by-raw args.attributes.now args.source.now args.i args.j c.if-clean.false c.comes.ensures
