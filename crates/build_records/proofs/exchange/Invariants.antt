use Prim.Native.Nat.{◌*◌}
use Rattle.build_records.proofs.Exchanging.{Exchanging}
use Rattle.build_records.proofs.exchange.Given as goal

abbrev pub invariant-loop-j : goal.invariant-loop-j
invariant-loop-j l = Exchanging l.initial.records l.records (l.i * 32) l.j
