use mathlib.Core.Bool.{true}
use mathlib.Core.Path.{refl, ap, ◌∙◌}
use Rattle.tree_report.specs.Layout.{following}
use Rattle.tree_order.specs.inside.Open.{state_of, fresh_of}
use Rattle.tree_order.proofs.Opening.{status, status-following}
use Rattle.tree_order.proofs.following.Goals as goal

pub returns-in-1 : goal.returns-in-1
unfolding following
returns-in-1 c = rw c.in-1.is c.fresh.ensures

pub returns-in-2 : goal.returns-in-2
unfolding following
returns-in-2 c = rw c.in-2.is c.fresh-in-2.ensures

pub returns-in-3 : goal.returns-in-3
unfolding following
returns-in-3 c = rw c.in-3.is (c.fresh-in-3.ensures ∙ ap (fresh_of 3 true) c.over.ensures)

pub returns-in-4 : goal.returns-in-4
unfolding following
returns-in-4 c = rw c.in-4.is c.fresh-in-4.ensures

pub returns-in-5 : goal.returns-in-5
unfolding following
returns-in-5 c = rw c.in-5.is refl

pub returns-in-13 : goal.returns-in-13
unfolding following
returns-in-13 c = rw c.in-13.is refl

pub returns-in-14 : goal.returns-in-14
unfolding following
returns-in-14 c = rw c.in-14.is refl

pub returns-in_default : goal.returns-in_default
returns-in_default c =
    let args = c.args in
    let n = c.in_default.in_default-own.rest in
    c.with_status.ensures
    ∙ status-following (state_of args.o) args.r.now (status n.0.0.0.0.0.0.1 n.0.0.0.0.0.1 n.0.0.0.0.1 n.0.0.0.1 n.0.0.1 n.0.1 n.1)
