use mathlib.Core.Path.{refl, sym, ◌∙◌}
use Rattle.list_status.proofs.runs_of.Goals as goal

pub returns-then-is_skipped : goal.returns-then-is_skipped
returns-then-is_skipped c = rw (sym c.is_skipped.ensures ∙ c.if-is_skipped.true) refl

pub returns-else-is_skipped : goal.returns-else-is_skipped
returns-else-is_skipped c = rw (sym c.is_skipped.ensures ∙ c.if-is_skipped.false) refl
