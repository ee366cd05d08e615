use Rattle.explain_spot.proofs.Counting.{columns-start, columns-done}
use Rattle.explain_spot.proofs.column_behind.Goals as goal

pub loop-b-init : goal.loop-b-init
loop-b-init c = columns-start _

pub returns : goal.returns
returns c = columns-done c.loop-b.invariant c.loop-b-test.false
