use Rattle.std.specs.Prelude.{Ok}
use Prim.Native.Nat.{◌-◌}
use mathlib.Core.Path.{ap, ◌∙◌}
use lib.ListN.{length}
use Rattle.read_step.specs.of_read_element.Outcome.{rooms_of}
use Rattle.read_step.proofs.Tables.{sizes}
use Rattle.reader.proofs.Looping as looping
use Rattle.reader.proofs.Looping.{loop-begins, loop-first, loop-since, loop-stands, loop-lent, loop-sized, loop-goes, loop-ends, loop_halts}
use Rattle.reader.proofs.run_events.Goals as goal

pub loop-behind-init : goal.loop-behind-init
loop-behind-init c =
    let pre = c.requires in
    loop-begins _ _ _ _ _ _ _ c.begin-st.ensures pre.records_value pre.text_value

pub step_event-next-requires : goal.step_event-next-requires
step_event-next-requires c =
    let pre = c.requires in
    let inv = c.loop-behind.invariant in
    let is = c.first_of-first.ensures in
    record { source_value = pre.source_value; event_bound = inv.within; first_bound = loop-first inv is; lent = loop-lent inv is pre.lent; standing_since = loop-stands inv is (sizes _ _ _ pre.source_value).event-limit }

pub loop-behind-smaller : goal.loop-behind-smaller
loop-behind-smaller c =
    let at-step-event = c in
    let start = at-step-event in
    let inv = c.loop-behind.invariant in
    let is = c.first_of-first.ensures in
    looping.loop-less inv is _ _ _ _ (at-step-event.step_event-next.ensures (rooms_of (length start.args.records.now) (length start.args.text.now) (length start.args.scratch.now))
    inv.content (loop-since inv is) (loop-sized inv is start.requires.lent) inv.stands) _ (c.in-Ok.is ∙ ap Ok c.in-Some.is)

pub loop-behind-preserved : goal.loop-behind-preserved
loop-behind-preserved c =
    let at-step-event = c in
    let start = at-step-event in
    let inv = c.loop-behind.invariant in
    let is = c.first_of-first.ensures in
    let k = at-step-event.step_event-next.auto in
    loop-goes inv is _ _ _ _ (at-step-event.step_event-next.ensures (rooms_of (length start.args.records.now) (length start.args.text.now) (length start.args.scratch.now))
    inv.content (loop-since inv is) (loop-sized inv is start.requires.lent) inv.stands) _ (c.in-Ok.is ∙ ap Ok c.in-Some.is) k.records k.text k.scratch

pub shape_of-records-in-None : goal.shape_of-records-in-None
shape_of-records-in-None c =
    let loop = c.loop-behind in
    let step-event = c.step_event-next in
    step-event.auto.records ∙ loop.invariant.of_words

pub shape_of-text-in-None : goal.shape_of-text-in-None
shape_of-text-in-None c =
    let loop = c.loop-behind in
    let step-event = c.step_event-next in
    step-event.auto.text ∙ loop.invariant.of-text

pub shape_of-scratch-in-None : goal.shape_of-scratch-in-None
shape_of-scratch-in-None c =
    let loop = c.loop-behind in
    let step-event = c.step_event-next in
    step-event.auto.scratch ∙ loop.invariant.of-scratch

pub returns-in-None : goal.returns-in-None
returns-in-None c =
    let at-step-event = c in
    let start = at-step-event in
    let inv = c.loop-behind.invariant in
    let is = c.first_of-first.ensures in
    loop-ends inv is _ _ _ _ (at-step-event.step_event-next.ensures (rooms_of (length start.args.records.now) (length start.args.text.now) (length start.args.scratch.now))
    inv.content (loop-since inv is) (loop-sized inv is start.requires.lent) inv.stands) (c.in-Ok.is ∙ ap Ok c.in-None.is)

pub shape_of-records-in-Err : goal.shape_of-records-in-Err
shape_of-records-in-Err c =
    let loop = c.loop-behind in
    let step-event = c.step_event-next in
    step-event.auto.records ∙ loop.invariant.of_words

pub shape_of-text-in-Err : goal.shape_of-text-in-Err
shape_of-text-in-Err c =
    let loop = c.loop-behind in
    let step-event = c.step_event-next in
    step-event.auto.text ∙ loop.invariant.of-text

pub shape_of-scratch-in-Err : goal.shape_of-scratch-in-Err
shape_of-scratch-in-Err c =
    let loop = c.loop-behind in
    let step-event = c.step_event-next in
    step-event.auto.scratch ∙ loop.invariant.of-scratch

pub returns-in-Err : goal.returns-in-Err
returns-in-Err c =
    let at-step-event = c in
    let start = at-step-event in
    let inv = c.loop-behind.invariant in
    let is = c.first_of-first.ensures in
    loop_halts inv is _ _ _ _ (at-step-event.step_event-next.ensures (rooms_of (length start.args.records.now) (length start.args.text.now) (length start.args.scratch.now))
    inv.content (loop-since inv is) (loop-sized inv is start.requires.lent) inv.stands) _ c.in-Err.is
