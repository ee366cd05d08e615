use Prim.Native.Nat.{◌≤◌}
use lib.ListN.{drop}
use Rattle.area.proofs.Laying.{Laying}
use Rattle.area.proofs.copy_into.Given as goal

abbrev pub invariant-loop-i : goal.invariant-loop-i
invariant-loop-i l = (l.i ≤ l.n) × Laying l.initial.out l.out l.i l.t (drop l.i l.t)
