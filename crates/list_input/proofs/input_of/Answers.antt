use native.Mathlib.Omega.{arith}
use mathlib.Core.Path.{sym, ◌∙◌}
use lib.ListN.{length}
use Rattle.list_input.proofs.Inputs.{rest-true, input-cut, input-not, input-is}
use Rattle.list_input.proofs.input_of.Goals as goal

pub returns-then-s-lt12 : goal.returns-then-s-lt12
returns-then-s-lt12 c =
    let a = c.args in
    let both = input-cut (length a.events.now) (length a.attributes.now) a.s.now c.if-s-lt12.true a.events.now a.attributes.now in record { value = both.0; events_after = both.1.0; attributes_after = both.1.1 }

pub returns-then-not-is_whole : goal.returns-then-not-is_whole
returns-then-not-is_whole c =
    let a = c.args in
    let k = c.numbers_of-n in
    let both = input-not (length a.events.now) (length a.attributes.now) a.s.now k.result.events k.result.attributes k.result.source k.ensures.events_value.0 k.ensures.attributes_value.0
    k.ensures.source_value.0 c.if-s-lt12.false c.is_whole.result c.is_whole.ensures (c.if-not-is_whole.true) a.events.now a.attributes.now in record { value = both.0; events_after = both.1.0; attributes_after = both.1.1 }

pub fill_front-requires : goal.fill_front-requires
fill_front-requires c =
    let args = c.args in
    let Numbers-of = c.numbers_of-n in
    let is_whole = c.is_whole in
    let if2 = c.if-not-is_whole in
    let f = rest-true (length args.events.now) (length args.attributes.now) (length args.s.now) Numbers-of.result.events
    Numbers-of.result.attributes Numbers-of.result.source (sym is_whole.ensures ∙ if2.false) in
    let x = f.0 in
    let y = f.2 in
    record { n_in_bounds = omega arith; n_in_bounds_2 = omega arith }

pub fill_front-requires-2 : goal.fill_front-requires-2
fill_front-requires-2 c =
    let args = c.args in
    let Numbers-of = c.numbers_of-n in
    let is_whole = c.is_whole in
    let if2 = c.if-not-is_whole in
    let f = rest-true (length args.events.now) (length args.attributes.now) (length args.s.now) Numbers-of.result.events
    Numbers-of.result.attributes Numbers-of.result.source (sym is_whole.ensures ∙ if2.false) in
    let x = f.1 in
    let y = f.2 in
    record { n_in_bounds = omega arith; n_in_bounds_2 = omega arith }

pub returns : goal.returns
returns c =
    let if1 = c.if-s-lt12 in
    let is_whole = c.is_whole in
    let if2 = c.if-not-is_whole in
    let fill-front = c.fill_front in
    let a = c.args in
    let k = c.numbers_of-n in
    let both = input-is (length a.events.now) (length a.attributes.now) a.s.now k.result.events k.result.attributes
    k.result.source k.ensures.events_value.0 k.ensures.attributes_value.0 k.ensures.source_value.0 if1.false is_whole.result is_whole.ensures
    (if2.false) a.events.now _ a.attributes.now _ fill-front.ensures c.fill_front-2.ensures in record { value = both.0; events_after = both.1.0; attributes_after = both.1.1 }
