use mathlib.Core.Path.{refl}
use Rattle.table.specs.Table.{good_attribute}
use Rattle.table.proofs.is_attribute.Goals as goal

pub returns : goal.returns
unfolding good_attribute
returns c = rw (c.is_within.ensures, c.is_within-2.ensures) refl
