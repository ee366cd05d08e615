use Prim.Native.Nat.{◌*◌}
use Rattle.write_walk.proofs.Walking.{Seeking}
use Rattle.write_walk.proofs.seek.Given as goal

abbrev pub invariant-loop-i : goal.invariant-loop-i
invariant-loop-i l = Seeking l.level l.low l.high l.words (l.i * 32)
