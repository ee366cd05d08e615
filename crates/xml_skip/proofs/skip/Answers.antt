use Rattle.xml_skip.proofs.Mild.{pass-run}
use Rattle.xml_skip.proofs.Passing.{pass-byte, pass-then}
use native.Mathlib.Omega.{arith}
use Rattle.xml_skip.proofs.skip.Goals as goal

pub loop-at-init : goal.loop-at-init
loop-at-init c = (c.calm_end-at.ensures.0, pass-run _ _ _ _ c.calm_end-at.ensures.0 c.calm_end-at.ensures.1)

pub move_at-m-requires : goal.move_at-m-requires
move_at-m-requires c =
    let pre = c.requires in
    record { le_mode = pre.le_mode; classes_value = pre.classes_value }

pub returns-then-m-mode : goal.returns-then-m-mode
returns-then-m-mode c =
    let loop = c.loop-at in
    loop.invariant

pub loop-at-preserved-then-m-eq46 : goal.loop-at-preserved-then-m-eq46
loop-at-preserved-then-m-eq46 c =
    let loop = c.loop-at in
    let loop-test = c.loop-at-test in
    let move_at = c.move_at-m in
    (omega (arith, loop.invariant.0), pass-byte loop.invariant.1 loop-test.true _ move_at.ensures c.if-m-eq46.true c.if-m-mode.false)

pub returns-then-w-eq0 : goal.returns-then-w-eq0
returns-then-w-eq0 c =
    let loop = c.loop-at in
    loop.invariant

pub overflow_add-at-else-m-eq46 : goal.overflow_add-at-else-m-eq46
overflow_add-at-else-m-eq46 c = omega (arith, c.loose_width-w.ensures.0)

pub loop-at-smaller : goal.loop-at-smaller
loop-at-smaller c = omega (arith, c.loose_width-w.ensures.0, c.if-w-eq0.false)

pub loop-at-preserved : goal.loop-at-preserved
loop-at-preserved c =
    let loop = c.loop-at in
    (omega (arith, loop.invariant.0), pass-then loop.invariant.1 c.loose_width-w.ensures.1)

pub returns : goal.returns
returns c = c.loop-at.invariant
