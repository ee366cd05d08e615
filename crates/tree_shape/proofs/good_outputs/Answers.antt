use mathlib.Core.Path.{refl}
use Rattle.tree_moments.specs.of_tree_report.inside.Parts.{good_outputs}
use Rattle.tree_shape.proofs.good_outputs.Goals as goal

pub returns : goal.returns
unfolding good_outputs
returns c = rw (c.text_slot.ensures, c.text_slot-2.ensures) refl
