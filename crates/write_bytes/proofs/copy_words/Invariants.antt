use Prim.Native.Nat.{◌≤◌}
use lib.ListN.{drop}
use Rattle.list_text.proofs.of_area.Laying.{Laying}
use Rattle.write_bytes.proofs.copy_words.Given as goal

abbrev pub invariant-loop-i : goal.invariant-loop-i
invariant-loop-i l = (l.i ≤ l.n) × Laying l.initial.out l.out l.i l.t (drop l.i l.t)
