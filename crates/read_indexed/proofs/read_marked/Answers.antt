use Rattle.std.proofs.lemmas.Result.{err_from_is_err_and}
use mathlib.Core.Path.{refl, ◌∙◌}
use native.Mathlib.Omega.{arith}
use lib.ListN.{take}
use lib.Seq.{length-take-le}
use Rattle.read_each.specs.inside.Fresh.{fresh}
use Rattle.read_indexed.proofs.Indexing.{indexing-start, indexing-fill, indexing-extras, indexing-told, indexing-done}
use Rattle.read_indexed.proofs.Indexing.{between-size, indexing-halted, indexing_on}
use Rattle.read_indexed.proofs.read_marked.Goals as goal

pub loop-j-init : goal.loop-j-init
loop-j-init c =
    let args = c.args in
    let pre = c.requires in
    indexing-start args.kind args.attributes.now args.source.now args.range.first args.range.end args.k args.own.now args.text.now
    (fresh args.kind (take args.fill args.text.now)) args.fill pre.begins.0 pre.begins.1.1.1.1.0 refl pre.marks

pub hint_for-hint-requires : goal.hint_for-hint-requires
hint_for-hint-requires c =
    let pre = c.requires in
    let x = c.loop-j.invariant in let f = x.few in let l = x.low in let o = x.own_same in record { j_in_bounds = omega (arith, pre.begins.1.0, c.loop-j-test.true); first_le_j = l; extras_bound = omega (arith, pre.begins.1.1.0, c.loop-j-test.true); k_in_bounds = omega (arith, pre.k_in_bounds); told = indexing-told x }

pub step_attribute-requires : goal.step_attribute-requires
step_attribute-requires c =
    let pre = c.requires in
    let x = c.loop-j.invariant in let a = indexing-fill x in let b = indexing-extras x in let q = x.text_same in record { first_le_j = x.low; j_in_bounds = omega (arith, pre.begins.1.0, c.loop-j-test.true); j_bound = omega (arith, pre.begins.1.1.0, c.loop-j-test.true); kind_bound = pre.kind_bound; bounded = (a, (omega (arith, pre.begins.1.1.1.0), b)) }

pub note_extra-requires : goal.note_extra-requires
note_extra-requires c =
    let x = c.loop-j.invariant in
    let o = x.own_same in
    let f = x.few in
    let l = x.low in
    let z = between-size x c.loop-j-test.true c.requires.first_bound c.requires.k_in_bounds c.requires.begins.1.1.1.1.1 c.hint_for-hint.ensures c.step_attribute.ensures
    (c.step_attribute.auto.own ∙ length-take-le c.args.k c.loop-j.own (omega (arith, c.requires.k_in_bounds))) refl in
    record { extras_bound = omega (arith, c.requires.begins.1.1.0, c.loop-j-test.true); k_in_bounds = omega (arith, c.requires.k_in_bounds, z) }

pub loop-j-preserved : goal.loop-j-preserved
loop-j-preserved c =
    let o = c.loop-j.invariant.own_same in
    indexing_on c.loop-j.invariant c.loop-j-test.true c.requires.first_bound c.requires.k_in_bounds c.requires.begins.1.1.1.1.1
    c.hint_for-hint.ensures c.step_attribute.ensures c.in_ok-given.was
    (c.step_attribute.auto.own ∙ length-take-le c.args.k c.loop-j.own (omega (arith, c.requires.k_in_bounds)))
    refl c.note_extra.ensures.own_unchanged c.note_extra.auto.own
    c.step_attribute.auto.text c.note_extra.ensures.quiet

pub returns-in_err-given : goal.returns-in_err-given
returns-in_err-given c =
    let o = c.loop-j.invariant.own_same in
    let q = err_from_is_err_and c.from_residual.result c.from_residual.ensures.1 in
    λ rooms p used whole w ro. rw (q.1, q.2) (indexing-halted c.loop-j.invariant c.loop-j-test.true c.requires.first_bound c.requires.k_in_bounds c.requires.begins.1.1.1.1.1
    c.hint_for-hint.ensures c.step_attribute.ensures
    (c.step_attribute.auto.own ∙ length-take-le c.args.k c.loop-j.own (omega (arith, c.requires.k_in_bounds)))
    refl c.in_err-given.was rooms p used whole w ro)

pub returns : goal.returns
returns c = indexing-done c.loop-j.invariant c.loop-j-test.false
