use borrow.Author.Tests.{not-true, not-false, ne_eqb}
use Rattle.list_sums.specs.inside.Summed.{status_by}
use Rattle.list_status.proofs.put_main.Goals as goal

pub returns-then-not-s : goal.returns-then-not-s
unfolding status_by
returns-then-not-s c =
    let args = c.args in
    let if1 = c.if-not-s in
    rw (not-true args.s.settled if1.true) c.put.ensures

pub returns-in-8 : goal.returns-in-8
unfolding status_by
returns-in-8 c =
    let args = c.args in
    let if1 = c.if-not-s in
    rw (not-false args.s.settled if1.false, c.in-8.is) c.put-in-8.ensures

pub returns-in-6 : goal.returns-in-6
unfolding status_by
returns-in-6 c =
    let args = c.args in
    let if1 = c.if-not-s in
    rw (not-false args.s.settled if1.false, c.in-6.is) c.put-in-6.ensures

pub returns-in_default : goal.returns-in_default
unfolding status_by
returns-in_default c =
    let args = c.args in
    let if1 = c.if-not-s in
    let m = args.s.main in
    let n = c.in_default.in_default-own.rest in
    rw (not-false args.s.settled if1.false, ne_eqb m 8 n.0.1, ne_eqb m 6 n.1) c.put-in_default.ensures
