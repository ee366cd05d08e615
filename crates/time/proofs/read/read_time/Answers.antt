use mathlib.Core.Path.{sym, ◌∙◌}
use Rattle.time.proofs.Times.{read_is, read-bad}
use Rattle.time.proofs.read.read_time.Goals as goal

pub returns-then-is_utf8 : goal.returns-then-is_utf8
returns-then-is_utf8 c = read-bad c.args.s.now c.in_default.ensures (sym c.is_utf8.ensures ∙ c.if-is_utf8.true)

pub returns : goal.returns
returns c = read_is c.args.s.now _ _ c.in-Some.ensures
