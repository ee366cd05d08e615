use Rattle.read_attributes.proofs.Missing.{missing-first, missing-second, missing-none}
use Rattle.read_attributes.proofs.missing_of.Goals as goal

pub returns-then-kind-has_bit : goal.returns-then-kind-has_bit
returns-then-kind-has_bit c = missing-first c.args.kind c.args.own.now c.has_bit.ensures c.if-kind-has_bit.true

pub returns-then-kind-has_bit-2 : goal.returns-then-kind-has_bit-2
returns-then-kind-has_bit-2 c =
    let args = c.args in
    missing-second args.kind args.own.now c.has_bit.ensures c.has_bit-2.ensures c.if-kind-has_bit.false c.if-kind-has_bit-2.true

pub returns : goal.returns
returns c =
    let args = c.args in
    missing-none args.kind args.own.now c.has_bit.ensures c.has_bit-2.ensures c.if-kind-has_bit.false c.if-kind-has_bit-2.false
