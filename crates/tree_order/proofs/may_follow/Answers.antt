use mathlib.Core.Path.{refl}
use Rattle.tree_report.specs.Layout.{may_follow}
use Rattle.tree_order.specs.inside.Open.{state_of}
use Rattle.tree_order.proofs.Opening.{status, status-may}
use Rattle.tree_order.proofs.may_follow.Goals as goal

pub returns-in-1 : goal.returns-in-1
unfolding may_follow
returns-in-1 c = rw c.in-1.is refl

pub returns-in-2 : goal.returns-in-2
unfolding may_follow
returns-in-2 c = rw (c.in-2.is, c.may_end-done.ensures) refl

pub returns-in-3 : goal.returns-in-3
unfolding may_follow
returns-in-3 c = rw (c.in-3.is, c.may_end-done.ensures) refl

pub returns-in-4 : goal.returns-in-4
unfolding may_follow
returns-in-4 c = rw (c.in-4.is, c.may_end-done.ensures, c.may_go_on.ensures) refl

pub returns-in-5 : goal.returns-in-5
unfolding may_follow
returns-in-5 c = rw (c.in-5.is, c.may_go_on-in-5.ensures) refl

pub returns-in-13 : goal.returns-in-13
unfolding may_follow
returns-in-13 c = rw c.in-13.is refl

pub returns-in-14 : goal.returns-in-14
unfolding may_follow
returns-in-14 c = rw c.in-14.is refl

pub returns-in_default : goal.returns-in_default
returns-in_default c =
    let args = c.args in
    let n = c.in_default.in_default-own.rest in
    status-may (state_of args.o) args.r.now (status n.0.0.0.0.0.0.1 n.0.0.0.0.0.1 n.0.0.0.0.1 n.0.0.0.1 n.0.0.1 n.0.1 n.1)
