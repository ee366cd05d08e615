use mathlib.Core.Bool.{true, false}
use native.Mathlib.Omega.{arith}
use Rattle.timestamp.proofs.Fractions.{run-next}
use Rattle.timestamp.proofs.parts.digit_run.Goals as goal

pub loop-i-preserved : goal.loop-i-preserved
loop-i-preserved c = let l = c.loop-i in omega (arith, l.invariant, run-next c.args.s.now l.i c.loop-i-test.true true c.if-not-b.false)

pub returns-then-not-b : goal.returns-then-not-b
returns-then-not-b c = let l = c.loop-i in omega (arith, l.invariant, run-next c.args.s.now l.i c.loop-i-test.true false c.if-not-b.true)
