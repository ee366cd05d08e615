use Rattle.explain_sentence.proofs.Table.{by-records, by-text, by-scratch, by-output, by-cause}
use Rattle.explain_sentence.proofs.place_by.Goals as goal

pub returns-then-place-lent : goal.returns-then-place-lent
returns-then-place-lent c = by-records c.args.place c.args.lent c.if-place-lent.true

pub returns-then-place-lent-2 : goal.returns-then-place-lent-2
returns-then-place-lent-2 c = by-text c.args.place c.args.lent c.if-place-lent.false c.if-place-lent-2.true

pub returns-then-place-lent-3 : goal.returns-then-place-lent-3
returns-then-place-lent-3 c = by-scratch c.args.place c.args.lent c.if-place-lent.false c.if-place-lent-2.false c.if-place-lent-3.true

pub returns-then-place-lent-4 : goal.returns-then-place-lent-4
returns-then-place-lent-4 c =
    let args = c.args in
    by-output args.place args.lent c.if-place-lent.false c.if-place-lent-2.false c.if-place-lent-3.false c.if-place-lent-4.true

pub returns : goal.returns
returns c =
    let args = c.args in
    by-cause args.place args.lent c.if-place-lent.false c.if-place-lent-2.false c.if-place-lent-3.false c.if-place-lent-4.false
