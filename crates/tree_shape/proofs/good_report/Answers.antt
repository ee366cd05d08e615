use mathlib.Core.Path.{refl}
use Rattle.tree_moments.proofs.of_tree_report.ByTable.{report-good}
use Rattle.tree_shape.proofs.Bits.{report-bits}
use Rattle.tree_shape.proofs.good_report.Goals as goal

pub returns : goal.returns
returns c =
    let args = c.args in
    rw (report-good args.texts.now args.r.now, report-bits args.r.now, c.good_common.ensures, c.free_slot.ensures, c.good_counts.ensures) refl
