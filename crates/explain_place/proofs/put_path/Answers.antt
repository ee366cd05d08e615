use Rattle.explain_element.proofs.of_list_text.Putting.{other}
use Rattle.explain_place.proofs.Walking.{at_most, walking_start, walking-more, walking-full, walking-done, whole-path}
use Rattle.explain_place.proofs.put_path.Goals as goal

pub loop-i-init : goal.loop-i-init
loop-i-init c =
    let args = c.args in
    walking_start args.events.now args.attributes.now args.source.now args.path.elements c.least-n.result args.out.now args.k

pub loop-i-preserved : goal.loop-i-preserved
loop-i-preserved c =
    let args = c.args in
    walking-more args.events.now args.attributes.now args.source.now c.loop-i.invariant (at_most args.path.len c.least-n.result c.least-n.ensures) c.loop-i-test.true c.put_step-mark.ensures

pub returns-then-not-is_open : goal.returns-then-not-is_open
returns-then-not-is_open c =
    let args = c.args in
    other (walking-full args.events.now args.attributes.now args.source.now c.loop-i.invariant (at_most args.path.len c.least-n.result c.least-n.ensures) c.is_open.result c.is_open.ensures c.if-not-is_open.true)
    (whole-path args.events.now args.attributes.now args.source.now args.path c.least-n.result c.least-n.ensures)

pub returns : goal.returns
returns c =
    let args = c.args in
    other (walking-done args.events.now args.attributes.now args.source.now c.loop-i.invariant (at_most args.path.len c.least-n.result c.least-n.ensures) c.loop-i-test.false)
    (whole-path args.events.now args.attributes.now args.source.now args.path c.least-n.result c.least-n.ensures)
