use mathlib.Core.Bool.{false}
use Rattle.tree_order.proofs.Opening.{with-tally}
use Rattle.tree_order.proofs.with_status.Goals as goal

pub returns : goal.returns
returns c =
    let over = c.over in
    rw (over.ensures, c.has_bit.ensures) (with-tally 3 false _ _ _ c.tallied.ensures)
