use mathlib.Core.Path.{refl, sym, ◌∙◌}
use Rattle.start_ends.proofs.earlier.Goals as goal

pub returns-then-sooner : goal.returns-then-sooner
returns-then-sooner c = rw (sym c.sooner.ensures ∙ c.if-sooner.true) refl

pub returns : goal.returns
returns c = rw (sym c.sooner.ensures ∙ c.if-sooner.false) refl
