use mathlib.Core.Bool.{◌&&◌, and-eq-true_iff}
use native.Mathlib.Omega.{arith}
use borrow.Author.Tests.{ltb-true}
use lib.Dec.{eqb, ltb}
use Rattle.table_events.proofs.depth_after.Goals as goal

pub returns-then-own-kind : goal.returns-then-own-kind
returns-then-own-kind c = simp c.if-own-kind.true

pub overflow_sub-result : goal.overflow_sub-result
overflow_sub-result c =
    let args = c.args in let p = (and-eq-true_iff (args.own && eqb args.kind 2) (ltb 0 args.depth)).0 c.if-own-kind-2.true in omega (arith, ltb-true 0 args.depth p.1)

pub returns-then-own-kind-2 : goal.returns-then-own-kind-2
returns-then-own-kind-2 c = simp (c.if-own-kind.false, c.if-own-kind-2.true)

pub returns : goal.returns
returns c = simp (c.if-own-kind.false, c.if-own-kind-2.false)
