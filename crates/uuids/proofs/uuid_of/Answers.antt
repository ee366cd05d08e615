use mathlib.Core.Path.{sym, ◌∙◌}
use Rattle.uuids.proofs.Forms.{answer-right, answer-bad, answer-not-utf8}
use Rattle.uuids.proofs.uuid_of.Goals as goal

pub returns-then-is_utf8 : goal.returns-then-is_utf8
returns-then-is_utf8 c = answer-bad _ c.in_default.ensures (sym c.is_utf8.ensures ∙ c.if-is_utf8.true)

pub returns-in_default : goal.returns-in_default
returns-in_default c = answer-not-utf8 _ (sym c.is_utf8.ensures ∙ c.if-is_utf8.false)

pub returns : goal.returns
returns c = answer-right _ _ c.in-Some.ensures
