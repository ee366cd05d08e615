use mathlib.Core.Path.{refl}
use Rattle.tree_moments.proofs.of_tree_report.ByTable.{case-good}
use Rattle.tree_shape.proofs.Bits.{case-bits}
use Rattle.tree_shape.proofs.good_case.Goals as goal

pub returns : goal.returns
returns c =
    let args = c.args in
    let good-outputs = c.good_outputs in
    let text-slot = c.text_slot in
    let free-slot = c.free_slot in
    let parts = case-good args.texts.now args.r.now in
    rw (parts, case-bits args.r.now, c.has_bit.ensures, c.good_common.ensures, good-outputs.ensures, text-slot.ensures, free-slot.ensures, c.is_zero.ensures) refl
