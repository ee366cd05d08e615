use mathlib.Core.Path.{refl}
use Rattle.tree_moments.specs.of_tree_report.inside.Parts.{good_common}
use Rattle.tree_shape.proofs.good_common.Goals as goal

pub returns : goal.returns
unfolding good_common
returns c = rw (c.text_slot.ensures, c.moment_slot.ensures, c.time_slot.ensures) refl
