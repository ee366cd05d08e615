use mathlib.Core.Path.{refl}
use Rattle.tree_order.proofs.may_stop.Goals as goal

pub returns : goal.returns
returns c = rw c.may_end.ensures refl
