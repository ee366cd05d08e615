use mathlib.Core.Path.{refl, sym, ◌∙◌}
use native.Mathlib.Omega.{arith}
use Rattle.xml_skip.proofs.Passing.{passed}
use Rattle.xml_skip.proofs.Naming.{kept}
use Rattle.xml_quick.proofs.Quickly.{quick-go}
use Rattle.xml_skip.proofs.of_xml_records.Loop.{at-start, mode-here, over, stay-on, go_on, full-out, bad-out, whole}
use Rattle.xml_skip.proofs.of_xml_agree.Whole.{agrees}
use Rattle.tokenizer.proofs.run_with.Goals as goal

pub loop-at-init : goal.loop-at-init
loop-at-init c = let start = c in
    rw c.begin-st.ensures (at-start start.args.source.now start.args.events.now start.args.attributes.now start.requires.source_len_bound start.requires.events_value.0 start.requires.events_value.1)

pub move_at-m-requires : goal.move_at-m-requires
move_at-m-requires c =
    let pre-step = c.requires in
    record { le_mode = mode-here c.loop-at.invariant; classes_value = pre-step.classes_value }

pub ahead-at-requires : goal.ahead-at-requires
ahead-at-requires c =
    let pre = c.requires in
    record { from_in_bounds = c.loop-at-test.true; m_value = c.move_at-m.ensures; le_mode = mode-here c.loop-at.invariant; classes_value = pre.classes_value }

pub overflow_add-at : goal.overflow_add-at
overflow_add-at c =
    let loop = c.loop-at in
    let loop-test = c.loop-at-test in
    omega (arith, loop.invariant.short, loop-test.true)

pub loop-at-smaller-then-m-eq46 : goal.loop-at-smaller-then-m-eq46
loop-at-smaller-then-m-eq46 c =
    let loop-test = c.loop-at-test in
    omega (arith, loop-test.true)

pub loop-at-preserved-then-m-eq46 : goal.loop-at-preserved-then-m-eq46
loop-at-preserved-then-m-eq46 c =
    let loop-test = c.loop-at-test in
    let move_at = c.move_at-m in
    let inv = c.loop-at.invariant in
    stay-on inv (agrees loop-test.true inv.stands.rep) loop-test.true _ move_at.ensures c.if-m-eq46.true

pub overflow_cast-i : goal.overflow_cast-i
overflow_cast-i c = omega (arith, c.loop-at.invariant.short)

pub quick-st-requires : goal.quick-st-requires
quick-st-requires c = omega (arith, c.loop-at.invariant.short)

pub loop-at-smaller-then-is_quick : goal.loop-at-smaller-then-is_quick
loop-at-smaller-then-is_quick c = omega (arith, c.loop-at-test.true)

pub loop-at-preserved-then-is_quick : goal.loop-at-preserved-then-is_quick
loop-at-preserved-then-is_quick c =
    let inv = c.loop-at.invariant in
    let here = c.loop-at-test.true in
    go_on inv (agrees here inv.stands.rep) here _ c.move_at-m.ensures c.if-m-eq46.false _ _ _
    (quick-go _ _ _ _ _ _ _ _ c.quick-st.ensures (sym c.is_quick.ensures ∙ c.if-is_quick.true)) refl refl _ refl

pub overflow_cast-i-else-is_quick : goal.overflow_cast-i-else-is_quick
overflow_cast-i-else-is_quick c =
    let loop = c.loop-at in
    omega (arith, loop.invariant.short)

pub act_on-requires : goal.act_on-requires
act_on-requires c =
    let loop = c.loop-at in
    omega (arith, loop.invariant.short)

pub pass_name-at-requires : goal.pass_name-at-requires
pass_name-at-requires c =
    let loop = c.loop-at in
    loop.invariant.short

pub loop-at-smaller-in-Go : goal.loop-at-smaller-in-Go
loop-at-smaller-in-Go c =
    let loop-test = c.loop-at-test in
    omega (arith, loop-test.true, c.pass_name-at.ensures.0)

pub loop-at-preserved-in-Go : goal.loop-at-preserved-in-Go
loop-at-preserved-in-Go c =
    let loop-test = c.loop-at-test in
    let move_at = c.move_at-m in
    let if2 = c.if-m-eq46 in
    let inv = c.loop-at.invariant in
    let act-on = c.act_on in
    kept c.pass_name-at.ensures.1 (go_on inv (agrees loop-test.true inv.stands.rep) loop-test.true _ move_at.ensures if2.false
    _ _ _ act-on.ensures act-on.auto.events act-on.auto.attributes _ c.in-Go.is)

pub shape_of-events-in-Full : goal.shape_of-events-in-Full
shape_of-events-in-Full c =
    let loop = c.loop-at in
    let act-on-step = c.act_on in
    act-on-step.auto.events ∙ loop.invariant.long

pub shape_of-attributes-in-Full : goal.shape_of-attributes-in-Full
shape_of-attributes-in-Full c =
    let loop = c.loop-at in
    let act-on-step = c.act_on in
    act-on-step.auto.attributes ∙ loop.invariant.broad

pub returns-in-Full : goal.returns-in-Full
returns-in-Full c =
    let loop-test = c.loop-at-test in
    let move_at = c.move_at-m in
    let if2 = c.if-m-eq46 in
    let inv = c.loop-at.invariant in
    let act-on = c.act_on in
    whole _ _ _ _ inv.short (full-out inv (agrees loop-test.true inv.stands.rep) loop-test.true _ move_at.ensures
    if2.false _ _ _ act-on.ensures act-on.auto.events act-on.auto.attributes c.in-Full.is)

pub overflow_cast-i-in-Bad : goal.overflow_cast-i-in-Bad
overflow_cast-i-in-Bad c =
    let loop = c.loop-at in
    omega (arith, loop.invariant.short)

pub refused-requires : goal.refused-requires
refused-requires c =
    let loop = c.loop-at in
    omega (arith, loop.invariant.short)

pub shape_of-events-in-Bad : goal.shape_of-events-in-Bad
shape_of-events-in-Bad c =
    let loop = c.loop-at in
    let act-on-step = c.act_on in
    act-on-step.auto.events ∙ loop.invariant.long

pub shape_of-attributes-in-Bad : goal.shape_of-attributes-in-Bad
shape_of-attributes-in-Bad c =
    let loop = c.loop-at in
    let act-on-step = c.act_on in
    act-on-step.auto.attributes ∙ loop.invariant.broad

pub returns-in-Bad : goal.returns-in-Bad
returns-in-Bad c =
    let loop-test = c.loop-at-test in
    let move_at = c.move_at-m in
    let if2 = c.if-m-eq46 in
    let inv = c.loop-at.invariant in
    let act-on = c.act_on in
    whole _ _ _ _ inv.short (bad-out inv (agrees loop-test.true inv.stands.rep) loop-test.true _ move_at.ensures if2.false
    _ _ _ act-on.ensures act-on.auto.events act-on.auto.attributes c.in-Bad.is _ c.refused.ensures)

pub loop-at-smaller : goal.loop-at-smaller
loop-at-smaller c =
    let loop-test = c.loop-at-test in
    omega (arith, c.ahead-at.ensures.0, c.if-at-i.false, loop-test.true)

pub loop-at-preserved : goal.loop-at-preserved
loop-at-preserved c =
    let loop = c.loop-at in
    passed c.ahead-at.ensures.1 loop.invariant

pub overflow_cast-at : goal.overflow_cast-at
overflow_cast-at c = omega (arith, c.loop-at.invariant.short, c.loop-at.invariant.within)

pub finish-requires : goal.finish-requires
finish-requires c = omega (arith, c.loop-at.invariant.short, c.loop-at.invariant.within)

pub shape_of-events : goal.shape_of-events
shape_of-events c =
    let loop = c.loop-at in
    c.finish.auto.events ∙ loop.invariant.long

pub shape_of-attributes : goal.shape_of-attributes
shape_of-attributes c =
    let loop = c.loop-at in
    loop.invariant.broad

pub returns : goal.returns
returns c =
    let loop = c.loop-at in
    let loop-test = c.loop-at-test in
    whole _ _ _ _ loop.invariant.short (over loop.invariant _ _ loop-test.false c.finish.ensures)
