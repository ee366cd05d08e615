use mathlib.Core.Path.{refl}
use Rattle.tree_moments.specs.of_tree_report.inside.Parts.{good_counts}
use Rattle.tree_shape.proofs.good_counts.Goals as goal

pub returns : goal.returns
unfolding good_counts
returns c = rw (c.free_slot.ensures, c.is_zero.ensures) refl
