use mathlib.Core.Path.{◌∙◌}
use native.Mathlib.Omega.{arith}
use Rattle.fraction.proofs.Fractions.{fraction-empty, fraction-long, fraction-other, fraction-below, fraction-is}
use Rattle.fraction.proofs.billionths_of.Goals as goal

pub returns-then-is_empty : goal.returns-then-is_empty
returns-then-is_empty c = fraction-empty c.args.f.now (grind arith)

pub returns-then-f-gt9 : goal.returns-then-f-gt9
returns-then-f-gt9 c = fraction-long c.args.f.now c.if-f-gt9.true

pub returns-in_err-v : goal.returns-in_err-v
returns-in_err-v c = c.from_residual.ensures ∙ fraction-other _ (grind arith) c.if-f-gt9.false c.in_err-v.ensures

pub scaled-requires : goal.scaled-requires
scaled-requires c = (c.if-f-gt9.false, fraction-below _ (grind arith) c.if-f-gt9.false _ c.in_ok-v.ensures)

pub returns : goal.returns
returns c = fraction-is _ (grind arith) c.if-f-gt9.false _ c.in_ok-v.ensures _ c.scaled.ensures
