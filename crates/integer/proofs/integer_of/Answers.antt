use mathlib.Core.Path.{sym, ◌∙◌}
use Rattle.integer.proofs.Integers.{read_is, read-bad}
use Rattle.integer.proofs.integer_of.Goals as goal

pub returns-then-is_utf8 : goal.returns-then-is_utf8
returns-then-is_utf8 c = read-bad _ _ c.behind_plus.ensures c.in-None.ensures (sym c.is_utf8.ensures ∙ c.if-is_utf8.true)

pub returns-in-Some : goal.returns-in-Some
returns-in-Some c = read_is _ _ c.behind_plus.ensures _ c.in-Some.ensures
