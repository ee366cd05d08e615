use mathlib.Core.Path.{refl}
use Rattle.tree_report.specs.Layout.{may_end}
use Rattle.tree_order.proofs.Opening.{sum-zero}
use Rattle.tree_order.proofs.may_end.Goals as goal

pub returns : goal.returns
unfolding may_end
returns c = rw (sum-zero, c.is_ruled.ensures) refl
