use Prim.Native.Nat.{◌*◌}
use Rattle.write_walk.proofs.Walking.{Counting}
use Rattle.write_walk.proofs.count_kind.Given as goal

abbrev pub invariant-loop-i : goal.invariant-loop-i
invariant-loop-i l = Counting l.level l.k l.k l.words l.n (l.i * 32)
