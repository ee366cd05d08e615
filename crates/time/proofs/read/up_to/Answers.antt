use mathlib.Core.Path.{◌∙◌}
use native.Mathlib.Omega.{arith}
use Rattle.time.proofs.Times.{up-to-none, up-to-some}
use Rattle.time.proofs.read.up_to.Goals as goal

pub returns-then-is_empty : goal.returns-then-is_empty
returns-then-is_empty c = let s = c.args in up-to-none s.most s.s.now (grind arith)

pub returns : goal.returns
returns c = let s = c.args in c.decimal.ensures ∙ up-to-some s.most s.s.now (grind arith)
