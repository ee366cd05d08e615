use Prim.Native.Nat.{◌-◌}
use lib.ListN.{length}
use Rattle.list_case.specs.inside.Shown.{runs_shown}
use Rattle.list_case.proofs.Going.{Going}
use Rattle.list_case.proofs.put_runs.Given as goal

abbrev pub invariant-loop-end : goal.invariant-loop-end
invariant-loop-end l = Going runs_shown l.initial.out l.words l.initial.mark l.out l.at l.mark

abbrev pub decreases-loop-end : goal.decreases-loop-end
decreases-loop-end l = length l.words - l.at
