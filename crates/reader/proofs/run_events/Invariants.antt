use Prim.Native.Nat.{◌-◌}
use Rattle.read_step.specs.of_table.Table.{count_of}
use Rattle.reader.proofs.Looping.{Looping}
use Rattle.reader.proofs.run_events.Given as goal

abbrev pub invariant-loop-behind : goal.invariant-loop-behind
invariant-loop-behind l = Looping l.events l.attributes l.source l.initial.records l.initial.text l.initial.scratch l.records l.text l.scratch l.st l.first

abbrev pub decreases-loop-behind : goal.decreases-loop-behind
decreases-loop-behind l = count_of l.events - l.st.marks.event
