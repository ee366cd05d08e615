use Prim.Native.Nat.{◌-◌}
use native.Mathlib.Omega.{arith}
use Rattle.order_suite.proofs.Turns.{turning-start, turning-done, turning-next}
use Rattle.order_suite.proofs.put_cases.Goals as goal

pub loop-i-init : goal.loop-i-init
loop-i-init c = turning-start _ _ _ _

pub overflow_add-i : goal.overflow_add-i
overflow_add-i c =
    let loop-test = c.loop-i-test in
    omega (arith, loop-test.true)

pub loop-i-smaller : goal.loop-i-smaller
loop-i-smaller c =
    let loop-test = c.loop-i-test in
    omega (arith, loop-test.true)

pub loop-i-preserved : goal.loop-i-preserved
loop-i-preserved c =
    let loop = c.loop-i in
    let loop-test = c.loop-i-test in
    let put-case = c.put_case-mark in
    turning-next loop.invariant loop-test.true put-case.ensures put-case.auto.events put-case.auto.attributes put-case.auto.bytes

pub shape_of-events : goal.shape_of-events
shape_of-events c = c.loop-i.invariant.same_events

pub shape_of-attributes : goal.shape_of-attributes
shape_of-attributes c = c.loop-i.invariant.same_attributes

pub shape_of-bytes : goal.shape_of-bytes
shape_of-bytes c = c.loop-i.invariant.same_bytes

pub returns : goal.returns
returns c = turning-done c.loop-i.invariant c.loop-i-test.false
