use Prim.Native.Nat.{◌*◌}
use Rattle.copying.proofs.Copying.{Copied}
use Rattle.copying.proofs.copy_blocks.Given as goal

abbrev pub invariant-loop-k : goal.invariant-loop-k
invariant-loop-k l = Copied l.s l.initial.out l.out (l.k * 16)
