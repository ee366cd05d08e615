use Rattle.table_events.proofs.Turns.{Skipping}
use Rattle.table_events.proofs.skip_from.Given as goal

abbrev pub invariant-loop-i : goal.invariant-loop-i
invariant-loop-i l = Skipping l.events l.source l.start l.name l.depth l.i
