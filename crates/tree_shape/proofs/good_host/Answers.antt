use mathlib.Core.Path.{refl}
use Rattle.tree_moments.specs.of_tree_report.inside.Parts.{good_host}
use Rattle.tree_shape.proofs.good_host.Goals as goal

pub returns : goal.returns
unfolding good_host
returns c = rw (c.free_slot.ensures, c.text_slot.ensures, c.is_zero.ensures) refl
