use Prim.Native.Nat.{◌-◌}
use Rattle.explain_name.proofs.Hunting.{Hunting}
use Rattle.explain_name.proofs.named_from.Given as goal

abbrev pub invariant-loop-j : goal.invariant-loop-j
invariant-loop-j l = Hunting l.attributes l.source l.first l.end l.j

abbrev pub decreases-loop-j : goal.decreases-loop-j
decreases-loop-j l = l.end - l.j
