use Rattle.xml_ends.proofs.Answers.{run-full, run_fits, no_run}
use mathlib.Core.Path.{ap}
use mathlib.Core.Bool.{not}
use Rattle.xml_ends.proofs.broken.Goals as goal

pub returns-then-not-has_room : goal.returns-then-not-has_room
returns-then-not-has_room c =
    let a = c.args in
    run-full a.st a.at a.words c.mode_of.ensures c.if-mode_of-st.true c.has_room.ensures (ap not c.if-not-has_room.true)

pub returns-else-not-has_room : goal.returns-else-not-has_room
returns-else-not-has_room c =
    let a = c.args in
    run_fits a.st a.at a.words c.mode_of.ensures c.if-mode_of-st.true c.has_room.ensures (ap not c.if-not-has_room.false)

pub returns-else-mode_of-st : goal.returns-else-mode_of-st
returns-else-mode_of-st c =
    let a = c.args in
    no_run a.st a.at a.words c.mode_of.ensures c.if-mode_of-st.false
