use Rattle.xml_skip.proofs.Passing.{pass-nothing}
use native.Mathlib.Omega.{arith}
use mathlib.Core.Path.{sym, ◌∙◌}
use Rattle.xml_skip.proofs.loose_width.Goals as goal

pub returns-then-is_loose : goal.returns-then-is_loose
returns-then-is_loose c = (c.width.ensures.0, c.width.ensures.1 _ (sym c.is_loose.ensures ∙ c.if-is_loose.true))

pub returns : goal.returns
returns c = (omega (arith, c.requires), pass-nothing _ _ _)
