use Rattle.build_runs.proofs.Turning.{turning-start, turning-more, turning-done}
use Rattle.build_records.proofs.of_build_draft.Places.{record-back}
use Rattle.build_records.specs.of_build_draft.Parts.{turned}
use Prim.Native.Nat.{◌-◌}
use Rattle.build_runs.proofs.turn_runs.Goals as goal

pub loop-i-init : goal.loop-i-init
loop-i-init c = turning-start _ _ _ _

pub loop-i-preserved : goal.loop-i-preserved
loop-i-preserved c =
    let args = c.args in
    let loop = c.loop-i in
    let loop-test = c.loop-i-test in
    let least = c.least-at in
    turning-more loop.invariant loop-test.true (record-back loop.records loop.i least.ensures (turned args.family) c.turn.ensures)

pub shape_of-records : goal.shape_of-records
shape_of-records c = c.loop-i.invariant.same

pub returns : goal.returns
returns c = turning-done c.loop-i.invariant c.loop-i-test.false
