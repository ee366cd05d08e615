use Prim.Native.Nat.{◌*◌, ◌≤◌}
use Rattle.print_days.proofs.main.Given as goal

abbrev pub invariant-loop-year : goal.invariant-loop-year
invariant-loop-year l = l.days ≤ l.year * 366
