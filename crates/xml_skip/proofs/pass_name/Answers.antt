use Rattle.xml_skip.proofs.Naming.{keep-none, keep-letter}
use native.Mathlib.Omega.{arith}
use mathlib.Core.Path.{◌≡◌, ◌∙◌}
use Rattle.xml_skip.proofs.pass_name.Goals as goal

pub returns-then-st-ne119 : goal.returns-then-st-ne119
returns-then-st-ne119 c = (omega arith, keep-none _ _ _)

pub loop-at-init : goal.loop-at-init
loop-at-init c = (omega arith, omega arith, c.if-st-ne119.false, keep-none _ _ _)

pub overflow_cast-at : goal.overflow_cast-at
overflow_cast-at c = omega (arith, c.loop-at-test.true, c.requires)

pub returns-then-wide : goal.returns-then-wide
returns-then-wide c =
    let loop = c.loop-at in
    (loop.invariant.0, loop.invariant.3)

pub returns-then-source-at : goal.returns-then-source-at
returns-then-source-at c =
    let loop = c.loop-at in
    (loop.invariant.0, loop.invariant.3)

pub loop-at-preserved : goal.loop-at-preserved
loop-at-preserved c =
    let loop = c.loop-at in
    let loop-test = c.loop-at-test in
    let less = c.less-k in
    let wide = c.wide in
    let wide2 = c.wide-in-loop-at in
    let if2 = c.if-wide in
    let wide3 = c.wide-in-loop-at-2 in
    let wide4 = c.wide-in-loop-at-3 in
    let byte_at = c.byte_at in (
      omega (arith, loop.invariant.0),
      omega (arith, loop-test.true),
      loop.invariant.2,
      keep-letter loop.invariant.3 loop-test.true loop.invariant.2
          _ (c.if-source-at.false ∙ byte_at.ensures) (omega (arith, wide3.ensures, wide4.ensures, less.ensures))
          (omega (arith, if2.false, wide.ensures, wide2.ensures, less.ensures)),
    )

pub returns : goal.returns
returns c =
    let loop = c.loop-at in
    let end : c.max.result ≡ loop.at = omega (arith, c.max.ensures, c.loop-at-test.false, loop.invariant.0, loop.invariant.1) in
    rw end (loop.invariant.0, loop.invariant.3)
