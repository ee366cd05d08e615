use native.Mathlib.Omega.{arith}
use Rattle.explain_spot.proofs.Counting.{lines_start, lines-done}
use Rattle.explain_spot.proofs.line_behind.Goals as goal

pub loop-b-init : goal.loop-b-init
loop-b-init c = lines_start _

pub overflow_add-line : goal.overflow_add-line
overflow_add-line c = omega (arith, c.loop-b.invariant.most)

pub returns : goal.returns
returns c = lines-done c.loop-b.invariant c.loop-b-test.false
