use Prim.Native.Nat.{◌*◌}
use Rattle.area.proofs.Seeking.{Seeking}
use Rattle.area.proofs.passed.Given as goal

abbrev pub invariant-loop-k : goal.invariant-loop-k
invariant-loop-k l = Seeking l.byte l.s (l.k * 64)
