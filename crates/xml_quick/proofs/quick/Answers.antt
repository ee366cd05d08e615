use Rattle.xml_quick.specs.inside.Quick.{quick_of}
use borrow.Author.Tests.{ne_eqb}
use mathlib.Core.Path.{refl}
use Rattle.xml_quick.proofs.quick.Goals as goal

pub returns-then-act-eq104 : goal.returns-then-act-eq104
unfolding quick_of
returns-then-act-eq104 c = rw c.if-act-eq104.true refl

pub returns-then-act-eq113 : goal.returns-then-act-eq113
unfolding quick_of
returns-then-act-eq113 c = rw c.if-act-eq113.true refl

pub returns-then-act-eq107 : goal.returns-then-act-eq107
unfolding quick_of
returns-then-act-eq107 c = rw (c.if-act-eq107.true, c.less-size.ensures) refl

pub returns : goal.returns
unfolding quick_of
returns c =
    let act = c.args.m.act in
    rw (ne_eqb act 0x68 c.if-act-eq104.false, ne_eqb act 0x71 c.if-act-eq113.false, ne_eqb act 0x6B c.if-act-eq107.false, c.less-size.ensures) refl
