use Rattle.xml_acts.proofs.FurtherBytes.{capital-most, lower-capital, lower-other}
use native.Mathlib.Omega.{arith}
use Rattle.xml_acts.proofs.lower.Goals as goal

pub overflow_add-result : goal.overflow_add-result
overflow_add-result c = omega (arith, capital-most c.args.b c.if-b.true)

pub returns-then-b : goal.returns-then-b
returns-then-b c = lower-capital c.args.b c.if-b.true

pub returns-else-b : goal.returns-else-b
returns-else-b c = lower-other c.args.b c.if-b.false
