use Prim.Native.Nat.{◌-◌}
use lib.ListN.{length}
use Rattle.list_case.proofs.Going.{Going}
use Rattle.list_suites.specs.inside.Shown.{suites_shown}
use Rattle.list_suites.proofs.put_suites.Given as goal

abbrev pub invariant-loop-end : goal.invariant-loop-end
invariant-loop-end l = Going (suites_shown l.text) l.initial.out l.words l.initial.mark l.out l.at l.mark

abbrev pub decreases-loop-end : goal.decreases-loop-end
decreases-loop-end l = length l.words - l.at
