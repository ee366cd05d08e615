use Rattle.tree_status.proofs.Tallies.{sum-positive}
use Rattle.tree_status.specs.Status.{ruled}
use mathlib.Core.Path.{refl}
use Rattle.tree_status.proofs.is_ruled.Goals as goal

pub returns : goal.returns
unfolding ruled
returns c = rw (sum-positive) refl
