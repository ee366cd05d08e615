use mathlib.Core.Path.{refl}
use Rattle.tree_moments.proofs.of_tree_report.ByTable.{suite-good}
use Rattle.tree_shape.proofs.Bits.{suite-bits}
use Rattle.tree_shape.proofs.good_suite.Goals as goal

pub returns : goal.returns
returns c =
    let args = c.args in
    let parts = suite-good args.texts.now args.r.now in
    rw (parts, suite-bits args.r.now, c.has_bit.ensures, c.good_common.ensures, c.good_outputs.ensures, c.good_host.ensures) refl
