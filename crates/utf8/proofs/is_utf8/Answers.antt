use mathlib.Core.Path.{sym, ◌∙◌}
use Rattle.utf8.proofs.Rules.{ascii-utf8}
use Rattle.utf8.proofs.is_utf8.Goals as goal

pub returns-then-is_ascii : goal.returns-then-is_ascii
returns-then-is_ascii c = sym (ascii-utf8 c.args.s.now (sym c.is_ascii.ensures ∙ c.if-is_ascii.true))
