use Prim.Native.Nat.{◌-◌}
use Rattle.tree_order.specs.inside.Open.{state_of}
use Rattle.tree_layout.proofs.Walking.{Walking}
use Rattle.tree_layout.proofs.good_records.Given as goal

abbrev pub invariant-loop-end : goal.invariant-loop-end
invariant-loop-end l = Walking l.texts l.words l.limit l.at (state_of l.state)

abbrev pub decreases-loop-end : goal.decreases-loop-end
decreases-loop-end l = l.limit - l.at
