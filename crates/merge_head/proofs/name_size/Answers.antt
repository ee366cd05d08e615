use Rattle.merge_head.specs.inside.Head.{name_size}
use mathlib.Core.Path.{refl, sym, ◌∙◌}
use borrow.Author.Rules.{rules}
use Rattle.merge_head.proofs.name_size.Goals as goal

pub returns-then-has_bit : goal.returns-then-has_bit
unfolding name_size
returns-then-has_bit c = record { value = rw (sym c.has_bit.ensures ∙ c.if-has_bit.true) c.field.ensures; upper_bound = search rules }

pub returns : goal.returns
unfolding name_size
returns c = record { value = rw (sym c.has_bit.ensures ∙ c.if-has_bit.false) refl; upper_bound = search rules }
