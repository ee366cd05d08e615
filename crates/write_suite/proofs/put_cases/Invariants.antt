use Rattle.write_walk.specs.of_write_items.inside.Suite.{cases_items}
use Rattle.write_rows.proofs.Going.{Going}
use Rattle.write_marks.specs.inside.Kept.{kept}
use lib.ListN.{length}
use Prim.Native.Nat.{◌-◌}
use Rattle.write_suite.proofs.put_cases.Given as goal

abbrev pub invariant-loop-end : goal.invariant-loop-end
invariant-loop-end l = Going (cases_items l.text) (kept l.initial.mark l.initial.events l.initial.attributes l.initial.bytes) l.words (kept l.mark l.events l.attributes l.bytes) l.at

abbrev pub decreases-loop-end : goal.decreases-loop-end
decreases-loop-end l = length l.words - l.at
