use mathlib.Core.Bool.{true, false}
use mathlib.Core.Path.{refl, ◌∙◌}
use native.Mathlib.Omega.{arith}
use borrow.Author.Tests.{not-true, not-false}
use Rattle.trim.proofs.Trimming.{rest_some, turn-fits, turn_end, end-end}
use Rattle.trim.proofs.end_forward.Goals as goal

pub loop-j-init : goal.loop-j-init
loop-j-init c = (omega arith, omega arith, refl)

pub first_of-f-requires : goal.first_of-f-requires
first_of-f-requires c =
    let args = c.args in
    rest_some args.s.now c.loop-j.j c.loop-j-test.true

pub overflow_add-j : goal.overflow_add-j
overflow_add-j c =
    let args = c.args in
    let l = c.loop-j in
    let h = turn-fits args.s.now l.j _ _ c.loop-j-test.true c.first_of-f.ensures in omega arith

pub loop-j-smaller-then-not-f : goal.loop-j-smaller-then-not-f
loop-j-smaller-then-not-f c =
    let args = c.args in
    let loop-test = c.loop-j-test in
    let l = c.loop-j in
    let h = turn-fits args.s.now l.j _ _ loop-test.true c.first_of-f.ensures in omega arith

pub loop-j-preserved-then-not-f : goal.loop-j-preserved-then-not-f
loop-j-preserved-then-not-f c =
    let args = c.args in
    let loop-test = c.loop-j-test in
    let l = c.loop-j in
    let h = turn-fits args.s.now l.j _ _ loop-test.true c.first_of-f.ensures in (
      omega arith,
      h.1,
      l.invariant.2 ∙ turn_end args.s.now l.j _ _ loop-test.true c.first_of-f.ensures l.to false (not-true _ c.if-not-f.true),
    )

pub loop-j-smaller : goal.loop-j-smaller
loop-j-smaller c =
    let args = c.args in
    let loop-test = c.loop-j-test in
    let l = c.loop-j in
    let h = turn-fits args.s.now l.j _ _ loop-test.true c.first_of-f.ensures in omega arith

pub loop-j-preserved : goal.loop-j-preserved
loop-j-preserved c =
    let args = c.args in
    let loop-test = c.loop-j-test in
    let l = c.loop-j in
    let h = turn-fits args.s.now l.j _ _ loop-test.true c.first_of-f.ensures in (
      omega arith,
      h.1,
      l.invariant.2 ∙ turn_end args.s.now l.j _ _ loop-test.true c.first_of-f.ensures l.to true (not-false _ c.if-not-f.false),
    )

pub returns : goal.returns
returns c = let l = c.loop-j in (omega arith, end-end _ l.j c.loop-j-test.false l.to l.invariant.2)
