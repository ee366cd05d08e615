use Rattle.key_order.proofs.Testing.{by_length, by_number, by_byte, in-first, in-second}
use Rattle.key_order.proofs.comes.Goals as goal

pub returns-then-n-b : goal.returns-then-n-b
returns-then-n-b c =
    let args = c.args in
    by_length c.key_of-a.ensures c.key_of-b.ensures args.i args.j c.if-n-b.true

pub returns-then-at-n : goal.returns-then-at-n
returns-then-at-n c =
    let args = c.args in
    let key-of = c.key_of-a in
    by_number key-of.ensures c.key_of-b.ensures args.i args.j c.if-n-b.false c.common-at.ensures c.if-at-n.true

pub bounds-a-at : goal.bounds-a-at
bounds-a-at c =
    let args = c.args in
    let key-of = c.key_of-a in
    let key-of2 = c.key_of-b in
    in-first key-of.ensures key-of2.ensures args.i args.j c.if-n-b.false c.common-at.ensures c.if-at-n.false

pub bounds-b-at : goal.bounds-b-at
bounds-b-at c =
    let args = c.args in
    let key-of = c.key_of-a in
    let key-of2 = c.key_of-b in
    let if1 = c.if-n-b in
    in-second key-of.ensures key-of2.ensures args.i args.j if1.false c.common-at.ensures c.if-at-n.false

pub returns : goal.returns
returns c =
    let args = c.args in
    let key-of = c.key_of-a in
    let key-of2 = c.key_of-b in
    let if1 = c.if-n-b in
    by_byte key-of.ensures key-of2.ensures args.i args.j if1.false c.common-at.ensures c.if-at-n.false
