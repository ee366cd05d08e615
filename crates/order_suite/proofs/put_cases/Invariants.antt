use Prim.Native.Nat.{◌-◌}
use Rattle.write_document.specs.of_write_marks.inside.Kept.{kept}
use Rattle.order_suite.proofs.Turns.{Turning}
use Rattle.order_suite.proofs.put_cases.Given as goal

abbrev pub invariant-loop-i : goal.invariant-loop-i
invariant-loop-i l = Turning l.kind l.from l.to (kept l.initial.mark l.initial.events l.initial.attributes l.initial.bytes) (kept l.mark l.events l.attributes l.bytes) l.i

abbrev pub decreases-loop-i : goal.decreases-loop-i
decreases-loop-i l = l.to - l.i
