use Rattle.read_again.specs.inside.Turns.{Known}
use Rattle.read_step.proofs.Settling.{again-here}
use Rattle.read_step.specs.inside.Promises.{given}
use mathlib.Core.Bool.{true}
use mathlib.Core.Path.{sym, ap, ◌∙◌}
use Rattle.read_actions.specs.of_read_element.Outcome.{unlimited}
use Rattle.read_actions.specs.of_read_state.inside.Coded.{mode_of, act_of, is_step}
use Rattle.read_actions.proofs.of_read_content.Areas.{fits-description, fits-gathered}
use Rattle.read_step.specs.inside.Planned.{name_in, is_stop}
use Rattle.read_actions.specs.of_read_state.declared.Act.{Act as CodedAct}
use Rattle.read_actions.specs.of_read_content.inside.Holds.{apt}
use Rattle.read_again.specs.of_read_path.inside.Coded.{has_room}
use Rattle.read_again.specs.of_read_machine.Machine as machine
use Rattle.read_actions.specs.of_read_each.inside.Promises.{attributes_in}
use Rattle.read_actions.specs.of_table.Event.{bytes_at}
use Rattle.read_step.specs.inside.Standing.{machine_of}
use Rattle.read_step.proofs.Properties.{unclosed, property-room, property-passes}
use Rattle.read_step.proofs.ByKind.{stop-only, skips, reads, lists, stops-there, plain-read, plain-same, plain-apt, plain_step, plain-close}
use Rattle.read_step.proofs.Eventful.{plan-fits, piece_way, act-way, stop-way, skip-way, skip-stepped, property-way}
use Rattle.read_step.proofs.Tables.{sizes, event, spans-lent}
use Rattle.read_step.proofs.step_event.Goals as goal

pub step_piece-requires : goal.step_piece-requires
step_piece-requires c = let w = c.requires.standing_since in
    record { description = fits-description w.stands.holds; child = fits-gathered w.stands.holds; event = w.event }

pub returns-then-is_piece : goal.returns-then-is_piece
returns-then-is_piece c =
    let start = c in
    let is-piece = c.is_piece in
    let if1 = c.if-is_piece in
    λ rooms d since sized t.
    let a = start.args in
    let k = c.kind_at-kind in
    let b = c.bytes_at-bytes in
    let x = c.step_piece in
    piece_way rooms a.events.now a.attributes.now a.source.now start.requires.source_value a.st d k.result
    b.result.now k.ensures b.ensures _ _ _ (sym is-piece.ensures ∙ if1.true) x.result
    (x.ensures rooms a.records.now a.text.now a.attributes.now a.source.now d sized t)

pub step_skip-requires : goal.step_skip-requires
step_skip-requires c =
    let start = c in
    let is-piece = c.is_piece in
    let a = start.args in
    let k = c.kind_at-kind in
    let b = c.bytes_at-bytes in
    let w = skip-way unlimited a.events.now a.attributes.now a.source.now start.requires.source_value a.st start.requires.standing_since.content
    k.result b.result.now k.ensures b.ensures (sym is-piece.ensures ∙ c.if-is_piece.false)
    (skips a.st.control k.result b.result.now c.plan-act.result c.plan-act.ensures.result_value (sym c.is_skip.ensures ∙ c.if-is_skip.true)) in
    record { start_bound = w.0; events_bound = (sizes a.events.now a.attributes.now a.source.now start.requires.source_value).event-limit }

pub returns-then-is_skip : goal.returns-then-is_skip
returns-then-is_skip c =
    let start = c in
    let is-piece = c.is_piece in
    let if1 = c.if-is_piece in
    λ rooms d since sized t.
    let a = start.args in
    let k = c.kind_at-kind in
    let b = c.bytes_at-bytes in
    skip-stepped rooms a.events.now a.attributes.now a.source.now start.requires.source_value a.st d k.result b.result.now k.ensures b.ensures
    (sym is-piece.ensures ∙ if1.false) _ _ _ c.step_skip.result (skips a.st.control k.result b.result.now c.plan-act.result
    c.plan-act.ensures.result_value (sym c.is_skip.ensures ∙ c.if-is_skip.true)) c.step_skip.ensures t

pub returns-then-is_stop : goal.returns-then-is_stop
returns-then-is_stop c =
    let start = c in
    let is-piece = c.is_piece in
    let if1 = c.if-is_piece in
    let plan = c.plan-act in
    λ rooms d since sized t.
    let a = start.args in
    let k = c.kind_at-kind in
    let b = c.bytes_at-bytes in
    stop-way rooms a.events.now a.attributes.now a.source.now start.requires.source_value a.st d k.result b.result.now k.ensures b.ensures (sym is-piece.ensures ∙ if1.false)
    (stops-there a.st.control k.result b.result.now plan.result plan.ensures.result_value (sym c.is_stop.ensures ∙ c.if-is_stop.true)) _ _ _ t

pub step_ready-read-requires : goal.step_ready-read-requires
step_ready-read-requires c =
    let a = c.args in
    let p = c.requires in
    let w = p.standing_since in
    let k = c.kind_at-kind in
    let b = c.bytes_at-bytes in
    let x = c.plan-act in
    let f = c.range_at-range in
    let y = c.plain in
    let piece = sym c.is_piece.ensures
    ∙ c.if-is_piece.false in
    let skip = sym c.is_skip.ensures ∙ c.if-is_skip.false in
    let stop = sym c.is_stop.ensures ∙ c.if-is_stop.false in
    let known : Known a.events.now = λ i h. (event a.events.now a.attributes.now a.source.now p.source_value i h).kind in record {
      control_value = ap (λ (z : CodedAct). apt z (mode_of a.st.control)) y.ensures ∙ plain-apt x.result (mode_of a.st.control) x.ensures.control_value;
      act_value = ap is_step y.ensures ∙ plain_step x.result skip stop;
      known = known;
      first_bound = p.first_bound;
      spans = spans-lent a.events.now a.attributes.now a.source.now p.source_value a.st.marks.event f.result.first f.result.end f.ensures.first_value f.ensures.end_value;
      lent = p.lent;
      standing_again = record {
        content = w.content;
        stands = w.stands;
        again = λ e.
            again-here (given a.events.now a.attributes.now a.source.now) a.first a.st
            w.content x.result _ _ _ (name_in k.result b.result.now) k.result b.result.now
            k.ensures b.ensures known piece x.ensures.result_value x.ensures.control_value w.since w.stands (plain-close x.result (sym y.ensures ∙ e));
        event = w.event;
      };
    }

pub pass_content-requires : goal.pass_content-requires
pass_content-requires c =
    let a = c.args in
    let p = c.requires in
    let k =
    c.kind_at-kind in
    let b = c.bytes_at-bytes in
    let x = c.plan-act in
    let f = c.range_at-range in
    let piece =
    sym c.is_piece.ensures
    ∙ c.if-is_piece.false in
    let o = sym c.has_content.ensures ∙ c.if-has_content.true in
    let w = property-way unlimited a.events.now a.attributes.now a.source.now p.source_value a.st p.standing_since.content k.result b.result.now k.ensures b.ensures
    piece (reads a.st.control k.result b.result.now x.result x.ensures.result_value o)
    f.result.first f.result.end f.ensures.first_value f.ensures.end_value in
    record { start_bound = w.0; events_bound = (sizes a.events.now a.attributes.now a.source.now p.source_value).event-limit }

pub returns-then-has_content : goal.returns-then-has_content
returns-then-has_content c =
    let a = c.args in
    let p = c.requires in
    let k = c.kind_at-kind in
    let b =
    c.bytes_at-bytes in
    let x = c.plan-act in
    let f = c.range_at-range in
    let y = c.plain in
    let s = c.step_ready-read in
    let z = c.pass_content in
    let piece = sym
    c.is_piece.ensures
    ∙ c.if-is_piece.false in
    let o = sym c.has_content.ensures ∙ c.if-has_content.true in
    let e = y.ensures ∙ plain-read x.result o in
    let n = bytes_at a.events.now a.source.now a.st.marks.event in
    let t = given a.events.now a.attributes.now a.source.now in
    let list = lists a.st.control k.result b.result.now x.result x.ensures.result_value o x.ensures.control_value in
    λ rooms d since sized u.
    let w = property-way rooms a.events.now a.attributes.now a.source.now p.source_value a.st d k.result b.result.now k.ensures b.ensures
    piece (reads a.st.control k.result b.result.now x.result x.ensures.result_value o)
    f.result.first f.result.end f.ensures.first_value f.ensures.end_value in
    property-passes rooms a.events.now a.attributes.now a.source.now a.st d f.result.first (attributes_in t f.result) w.0 w.1 _ _ _ s.result z.result
    (machine.act rooms (act_of a.st.control n y.result) f.result.first (attributes_in t f.result) (machine_of a.st d)) list
    (ap (λ (v : CodedAct). machine.act rooms (act_of a.st.control n v) f.result.first (attributes_in t f.result) (machine_of a.st d)) e)
    (s.ensures rooms d n (ap (λ (v : CodedAct). has_room (act_of a.st.control n v)) e ∙ property-room a.st true n d list u.lists) (λ h. absurd (unclosed (sym e ∙ h))) sized u)
    z.ensures

pub returns : goal.returns
returns c =
    let a = c.args in
    let p = c.requires in
    let k =
    c.kind_at-kind in
    let b = c.bytes_at-bytes in
    let x = c.plan-act in
    let f = c.range_at-range in
    let y = c.plain in
    let s = c.step_ready-read in
    let piece =
    sym c.is_piece.ensures
    ∙ c.if-is_piece.false in
    let stop = sym c.is_stop.ensures
    ∙ c.if-is_stop.false in
    let e = y.ensures ∙ plain-same x.result (sym c.has_content.ensures ∙ c.if-has_content.false) in
    let n = name_in k.result b.result.now in
    let q = ap (λ (v : CodedAct). act_of a.st.control n v) e ∙ x.ensures.result_value in
    λ rooms d since sized t.
    act-way rooms a.events.now a.attributes.now a.source.now p.source_value a.st d k.result b.result.now k.ensures b.ensures
    piece (act_of a.st.control n y.result) q _ _ _
    (stop-only (mode_of a.st.control) n y.result (ap is_stop e ∙ stop))
    f.result.first f.result.end f.ensures.first_value f.ensures.end_value s.result
    (s.ensures rooms d n
    (plan-fits a.st d k.result b.result.now (act_of a.st.control n y.result) q t.lists)
    (again-here (given a.events.now a.attributes.now a.source.now) a.first a.st d y.result _ _ _ n k.result b.result.now
    k.ensures b.ensures (λ i h. (event a.events.now a.attributes.now a.source.now p.source_value i h).kind)
    piece q (ap (λ (v : CodedAct). apt v (mode_of a.st.control)) e ∙ x.ensures.control_value) since t)
    sized t)
