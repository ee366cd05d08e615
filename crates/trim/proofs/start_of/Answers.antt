use mathlib.Core.Bool.{true, false}
use mathlib.Core.Path.{refl, ◌∙◌}
use native.Mathlib.Omega.{arith}
use borrow.Author.Tests.{not-true, not-false}
use Rattle.trim.proofs.Trimming.{rest_some, turn-fits, turn-start, start-end}
use Rattle.trim.proofs.start_of.Goals as goal

pub loop-i-init : goal.loop-i-init
loop-i-init c = (omega arith, refl)

pub first_of-f-requires : goal.first_of-f-requires
first_of-f-requires c =
    let args = c.args in
    rest_some args.s.now c.loop-i.i c.loop-i-test.true

pub returns-then-not-f : goal.returns-then-not-f
returns-then-not-f c =
    let args = c.args in
    let loop-test = c.loop-i-test in
    let l = c.loop-i in
    (l.invariant.0, l.invariant.1 ∙ turn-start args.s.now l.i _ _ loop-test.true c.first_of-f.ensures false (not-true _ c.if-not-f.true))

pub overflow_add-i : goal.overflow_add-i
overflow_add-i c =
    let args = c.args in
    let loop-test = c.loop-i-test in
    let l = c.loop-i in
    let h = turn-fits args.s.now l.i _ _ loop-test.true c.first_of-f.ensures in omega arith

pub loop-i-smaller : goal.loop-i-smaller
loop-i-smaller c =
    let args = c.args in
    let loop-test = c.loop-i-test in
    let l = c.loop-i in
    let h = turn-fits args.s.now l.i _ _ loop-test.true c.first_of-f.ensures in omega arith

pub loop-i-preserved : goal.loop-i-preserved
loop-i-preserved c =
    let args = c.args in
    let loop-test = c.loop-i-test in
    let l = c.loop-i in (
      (turn-fits args.s.now l.i _ _ loop-test.true c.first_of-f.ensures).1,
      l.invariant.1 ∙ turn-start args.s.now l.i _ _ loop-test.true c.first_of-f.ensures true (not-false _ c.if-not-f.false),
    )

pub returns : goal.returns
returns c = let l = c.loop-i in (l.invariant.0, l.invariant.1 ∙ start-end _ l.i c.loop-i-test.false)
