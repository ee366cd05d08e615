use Rattle.merge_rows.specs.inside.Slots.{size_at}
use mathlib.Core.Path.{refl, sym, ◌∙◌}
use borrow.Author.Rules.{rules}
use Rattle.merge_rows.proofs.size_at.Goals as goal

pub returns-then-has_text : goal.returns-then-has_text
unfolding size_at
returns-then-has_text c = record { value = rw (sym c.has_text.ensures ∙ c.if-has_text.true) c.field.ensures; upper_bound = search rules }

pub returns : goal.returns
unfolding size_at
returns c = record { value = rw (sym c.has_text.ensures ∙ c.if-has_text.false) refl; upper_bound = search rules }
