use native.Mathlib.Omega.{arith}
use Rattle.xml_part.proofs.Following.{further, scaled, outside, takes, none-begins}
use Rattle.xml_part.proofs.follow.Goals as goal

pub returns-then-b : goal.returns-then-b
returns-then-b c = outside c.args.p c.args.b c.if-b.true

pub overflow_sub-b : goal.overflow_sub-b
overflow_sub-b c = further c.args.b c.if-b.false

pub overflow_mul-low : goal.overflow_mul-low
overflow_mul-low c = omega (arith, scaled c.wide.ensures.1 c.unit-unit.ensures.1)

pub overflow_add-low : goal.overflow_add-low
overflow_add-low c = omega (arith, scaled c.wide.ensures.1 c.unit-unit.ensures.1)

pub overflow_add-high : goal.overflow_add-high
overflow_add-high c = omega (arith, scaled c.wide.ensures.1 c.unit-unit.ensures.1)

pub returns-then-not-meets_class : goal.returns-then-not-meets_class
returns-then-not-meets_class c =
    let a = c.args in
    none-begins a.p a.b c.if-b.false c.unit-unit.ensures.0 c.widen.ensures.0 c.wide.ensures.0 c.widen-2.ensures.0 c.max.ensures c.meets_class.ensures c.if-not-meets_class.true

pub returns : goal.returns
returns c =
    let a = c.args in
    takes a.p a.b c.if-b.false c.unit-unit.ensures.0 c.widen.ensures.0 c.wide.ensures.0 c.widen-2.ensures.0 c.max.ensures c.meets_class.ensures c.if-not-meets_class.false c.saturating_sub.ensures
