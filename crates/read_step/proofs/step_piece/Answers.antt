use mathlib.Core.Path.{refl, sym, ◌∙◌}
use Rattle.read_actions.specs.of_read_state.inside.Coded.{level_of, output_of}
use Rattle.read_actions.specs.of_read_place.inside.Coded.{marks_of}
use Rattle.read_actions.specs.of_table.Event.{piece_kind, piece_bytes}
use Rattle.read_step.specs.inside.Standing.{machine_of}
use Rattle.read_step.proofs.Stepping.{piece-moved, piece-passed, here, piece_goes, piece_halts}
use Rattle.read_step.proofs.step_piece.Goals as goal

pub returns-then-not-is_gathering : goal.returns-then-not-is_gathering
returns-then-not-is_gathering c = λ rooms words text attributes source d sized t.
    let a = c.args in
    piece-moved attributes source words text _ words text a.scratch.now a.st _ _ d d c.onward-marks.ensures t t.holds t.lists
    (piece-passed rooms (piece_kind a.kind) (piece_bytes a.kind a.bytes.now) (machine_of a.st d) (sym c.is_gathering.ensures ∙ c.if-not-is_gathering.true))

pub returns-in-Ok : goal.returns-in-Ok
returns-in-Ok c =
    let onward = c.onward-marks in
    let is-gathering = c.is_gathering in
    let if1 = c.if-not-is_gathering in
    let gather = c.gather-gathered in
    λ rooms words text attributes source d sized t.
    let a = c.args in
    piece_goes attributes source words text _ a.scratch.now rooms (piece_kind a.kind)
    (piece_bytes a.kind a.bytes.now) a.st d _ (sym is-gathering.ensures ∙ if1.false)
    (gather.ensures rooms (here a.st) d (level_of a.st.control.level) (output_of a.st.control.output)
    (marks_of a.st.marks) words text attributes source refl (sym is-gathering.ensures ∙ if1.false) t.holds t.lists sized)
    _ _ c.in-Ok.is onward.ensures t

pub returns-in-Err : goal.returns-in-Err
returns-in-Err c =
    let start = c in
    let is-gathering = c.is_gathering in
    let if1 = c.if-not-is_gathering in
    let gather = c.gather-gathered in
    λ rooms words text attributes source d sized t.
    let a = start.args in
    piece_halts attributes source words text _ a.scratch.now rooms (piece_kind a.kind)
    (piece_bytes a.kind a.bytes.now) a.st d _ (sym is-gathering.ensures ∙ if1.false)
    (gather.ensures rooms (here a.st) d (level_of a.st.control.level) (output_of a.st.control.output)
    (marks_of a.st.marks) words text attributes source refl (sym is-gathering.ensures ∙ if1.false) t.holds t.lists sized)
    _ _ c.in-Err.is start.requires.event
