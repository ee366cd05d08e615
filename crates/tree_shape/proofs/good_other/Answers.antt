use mathlib.Core.Path.{refl}
use Rattle.tree_moments.specs.of_tree_report.inside.Parts.{good_other}
use Rattle.tree_shape.proofs.good_other.Goals as goal

pub returns : goal.returns
unfolding good_other
returns c =
    let has-bit = c.has_bit in
    let has-bit2 = c.has_bit-2 in
    let text-slot = c.text_slot in
    let text-slot2 = c.text_slot-2 in
    let text-slot3 = c.text_slot-3 in
    rw (
      c.only_other.ensures,
      has-bit.ensures,
      has-bit2.ensures,
      c.good_common.ensures,
      c.good_outputs.ensures,
      text-slot.ensures,
      text-slot2.ensures,
      text-slot3.ensures,
      c.is_zero.ensures,
    ) refl
