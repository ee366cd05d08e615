use mathlib.Core.Bool.{false}
use Rattle.tree_order.proofs.Opening.{with-tally}
use Rattle.tree_order.proofs.fresh.Goals as goal

pub returns : goal.returns
returns c = with-tally _ _ _ 0 false c.no_status.ensures
