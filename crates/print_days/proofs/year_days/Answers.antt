use mathlib.Core.Path.{refl, sym, ◌∙◌}
use Rattle.print_days.proofs.year_days.Goals as goal

pub returns-then-is_leap : goal.returns-then-is_leap
returns-then-is_leap c = rw (sym c.is_leap.ensures ∙ c.if-is_leap.true) refl

pub returns : goal.returns
returns c = rw (sym c.is_leap.ensures ∙ c.if-is_leap.false) refl
