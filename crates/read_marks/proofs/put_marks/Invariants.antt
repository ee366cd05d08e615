use Prim.Native.Nat.{◌<◌}
use Rattle.read_marks.specs.inside.Marks.{Marks}
use Rattle.read_marks.proofs.put_marks.Given as goal

abbrev pub invariant-loop-p : goal.invariant-loop-p
invariant-loop-p l = Marks l.attributes l.source l.first l.words × (l.lead < 65536)
