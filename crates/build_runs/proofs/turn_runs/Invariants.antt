use Rattle.build_runs.proofs.Turning.{Turning}
use Rattle.build_runs.proofs.turn_runs.Given as goal

abbrev pub invariant-loop-i : goal.invariant-loop-i
invariant-loop-i l = Turning l.family l.from l.to l.initial.records l.records l.i
