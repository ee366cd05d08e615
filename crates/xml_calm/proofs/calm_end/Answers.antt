use Prim.Native.Nat.{◌+◌, ◌-◌}
use mathlib.Core.Path.{sym, ap, ◌∙◌}
use native.Mathlib.Omega.{arith}
use lib.ListN.{take, drop}
use Rattle.xml_calm.specs.inside.Calm.{mild_all}
use Rattle.xml_calm.proofs.Calming.{calm-none, calm_block}
use Rattle.xml_calm.proofs.calm_end.Goals as goal

pub returns-then-stop-eq0 : goal.returns-then-stop-eq0
returns-then-stop-eq0 c = let a = c.args in (omega arith, calm-none a.source.now a.mode a.from)

pub loop-at-init : goal.loop-at-init
loop-at-init c =
    let a = c.args in
    (omega arith, c.stop_of-stop.ensures, (λ z. c.if-stop-eq0.false (c.stop_of-stop.ensures ∙ z)), calm-none a.source.now a.mode a.from)

pub overflow_sub-source : goal.overflow_sub-source
overflow_sub-source c = omega (arith, c.loop-at-test.true)

pub returns-then-source-at-lt16 : goal.returns-then-source-at-lt16
returns-then-source-at-lt16 c = let inv = c.loop-at.invariant in (inv.0, inv.3)

pub overflow_add-end : goal.overflow_add-end
overflow_add-end c = omega (arith, c.loop-at-test.true, c.if-source-at-lt16.false)

pub slice_bounds-is_calm-count : goal.slice_bounds-is_calm-count
slice_bounds-is_calm-count c = omega (arith, c.loop-at-test.true, c.if-source-at-lt16.false)

pub slice_bounds-is_calm-start : goal.slice_bounds-is_calm-start
slice_bounds-is_calm-start c = omega (arith, c.loop-at-test.true, c.if-source-at-lt16.false)

pub slice_bounds-is_calm-end : goal.slice_bounds-is_calm-end
slice_bounds-is_calm-end c = omega (arith, c.loop-at-test.true, c.if-source-at-lt16.false)

pub loop-at-smaller : goal.loop-at-smaller
loop-at-smaller c = omega (arith, c.loop-at-test.true, c.if-source-at-lt16.false)

pub loop-at-preserved : goal.loop-at-preserved
loop-at-preserved c =
    let loop = c.loop-at in
    let a = c.args in
    let source = a.source.now in
    let part = take (loop.at + 16 - loop.at) (drop loop.at source) in
    let loop-test = c.loop-at-test in
    let if2 = c.if-source-at-lt16 in (
      omega (arith, loop.invariant.0),
      loop.invariant.1,
      loop.invariant.2,
      calm_block source a.mode a.from loop.at loop.invariant.3 (loop.at + 16) (omega arith) (omega (arith, loop-test.true, if2.false)) loop.invariant.2
          (ap (λ stop. mild_all stop part) (sym loop.invariant.1) ∙ sym c.is_calm.ensures ∙ c.if-is_calm.true),
    )

pub returns-else-is_calm : goal.returns-else-is_calm
returns-else-is_calm c = let inv = c.loop-at.invariant in (inv.0, inv.3)

pub returns : goal.returns
returns c = let inv = c.loop-at.invariant in (inv.0, inv.3)
