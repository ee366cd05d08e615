use native.Mathlib.Omega.{arith}
use mathlib.Core.Path.{refl}
use Rattle.read_actions.proofs.of_tree_status.Tallies.{few-more}
use Rattle.read_actions.specs.of_read_state.inside.Coded.{mode_of, act_of}
use Rattle.read_actions.proofs.of_read_place.Lasting.{low-weak}
use Rattle.read_actions.specs.of_read_place.inside.Coded.{marks_of}
use Rattle.read_again.specs.of_read_path.Paths.{act_place}
use Rattle.read_step.proofs.Stepping.{comes-to, comes-not, act-moved, act-halts}
use Rattle.read_step.proofs.step_act.Goals as goal

pub perform-performed-requires : goal.perform-performed-requires
perform-performed-requires c = let p = c.requires in let s = p.spans in let w = p.standing in
    record { control_value = p.control_value; ready_in = (s.low, (s.high, (s.most, (p.lent.of-text, record { said = w.content; holds = w.stands.holds; lists = w.stands.lists })))) }

pub behind-requires : goal.behind-requires
behind-requires c = let p = c.requires in
    let w = p.standing in record { low = low-weak w.event w.stands.low; few = few-more w.stands.few (omega (arith, w.event)); act_value = p.act_value }

pub returns-in-Ok : goal.returns-in-Ok
returns-in-Ok c =
    let at-perform = c in
    let start = at-perform in
    λ rooms d name room lo sized t.
    let a = start.args in
    let b = c.behind in
    let x =
    comes-to _ (at-perform.perform-performed.ensures rooms (act_place (act_of a.st.control name a.act) (mode_of a.st.control) (marks_of a.st.marks)) d name refl lo t.holds t.lists sized)
    c.in-Ok.is in
    act-moved _ _ _ _ _ _ _ a.act name a.st d x.0 _ start.requires.act_value t x.2 x.3 rooms _ _ _ b.ensures.by_index b.ensures.content_value x.1

pub returns-in-Err : goal.returns-in-Err
returns-in-Err c =
    let start = c in
    let perform = c.perform-performed in
    λ rooms d name room lo sized t.
    let a = start.args in
    act-halts rooms a.act name _ _ a.st d _ room start.requires.standing.event
    (comes-not _ (perform.ensures rooms (act_place (act_of a.st.control name a.act) (mode_of a.st.control) (marks_of a.st.marks)) d name refl lo t.holds t.lists sized)
    c.in-Err.is)
