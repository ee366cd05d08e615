use mathlib.Core.Path.{◌∙◌}
use native.Mathlib.Omega.{arith}
use Rattle.table.proofs.Scanning.{attribute-lent, scanning-more, scanning-hit, scanning-done}
use Rattle.table.proofs.first_bad.Goals as goal

pub loop-j-preserved : goal.loop-j-preserved
loop-j-preserved c = let loop = c.loop-j in scanning-more loop.invariant c.loop-j-test.true (attribute-lent _ _ loop.j c.is_attribute.ensures c.if-not-is_attribute.false)

pub returns-then-not-is_attribute : goal.returns-then-not-is_attribute
returns-then-not-is_attribute c = let loop = c.loop-j in scanning-hit loop.invariant c.loop-j-test.true (attribute-lent _ _ loop.j c.is_attribute.ensures c.if-not-is_attribute.true)

pub returns : goal.returns
returns c = let h = c.loop-j-test.false in (let l = c.loop-j.invariant.high in omega arith) ∙ scanning-done c.loop-j.invariant h
