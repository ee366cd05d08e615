use Prim.Native.Nat.{◌-◌, ◌+◌}
use mathlib.Core.Path.{sym, ◌∙◌}
use native.Mathlib.Omega.{arith}
use lib.ListN.{take, drop}
use Rattle.tree_shape.proofs.of_tree_status.Tallies.{few-more}
use Rattle.tree_order.specs.inside.Open.{state_of}
use Rattle.tree_layout.proofs.Walking.{record-part, record-length, stands-fits, walking_start, walking-next, walking-stop, walking-done}
use Rattle.tree_layout.proofs.good_records.Goals as goal

pub loop-end-init : goal.loop-end-init
loop-end-init c = walking_start _ _ _ _ c.nothing-state.ensures

pub stands_at-requires : goal.stands_at-requires
stands_at-requires c =
    let pre = c.requires in
    (c.loop-end.invariant.fits, pre.0)

pub overflow_add-end : goal.overflow_add-end
overflow_add-end c =
    let pre = c.requires in
    omega (arith, c.loop-end.invariant.fits, pre.1)

pub offset_bounds-words-at : goal.offset_bounds-words-at
offset_bounds-words-at c =
    let pre = c.requires in
    omega (arith, c.loop-end.invariant.fits, pre.1)

pub slice_bounds-r-end : goal.slice_bounds-r-end
slice_bounds-r-end c =
    let pre = c.requires in
    omega (arith, stands-fits c.loop-end.invariant (sym c.stands_at.ensures ∙ c.loop-end-test.true), pre.0)

pub admitted-requires : goal.admitted-requires
admitted-requires c =
    let args = c.args in
    let pre = c.requires in
    let l = c.loop-end in
    let h = stands-fits l.invariant (sym c.stands_at.ensures ∙ c.loop-end-test.true) in
    record-length args.words.now l.at (omega (arith, pre.0))

pub next-state-requires : goal.next-state-requires
next-state-requires c =
    let args = c.args in
    let pre = c.requires in
    let stands_at = c.stands_at in
    let l = c.loop-end in
    let h = stands-fits l.invariant (sym stands_at.ensures ∙ c.loop-end-test.true) in
    (record-length args.words.now l.at (omega (arith, pre.0)), few-more l.invariant.few (omega (arith, l.invariant.fits, pre.1)))

pub loop-end-smaller : goal.loop-end-smaller
loop-end-smaller c =
    let loop = c.loop-end in
    let stands_at = c.stands_at in
    let if1 = c.loop-end-test in
    omega (arith, stands-fits loop.invariant (sym stands_at.ensures ∙ if1.true))

pub loop-end-preserved : goal.loop-end-preserved
loop-end-preserved c =
    let stands_at = c.stands_at in
    let if1 = c.loop-end-test in
    let l = c.loop-end in
    let words = c.args.words.now in
    walking-next l.invariant (take (l.at + 32 - l.at) (drop l.at words)) (record-part words l.at) (sym stands_at.ensures ∙ if1.true)
    (state_of c.next-state.result) (sym c.admitted.ensures ∙ c.if-admitted.true) c.next-state.ensures

pub returns-else-admitted : goal.returns-else-admitted
returns-else-admitted c =
    let stands_at = c.stands_at in
    let l = c.loop-end in
    let words = c.args.words.now in
    walking-stop l.invariant (take (l.at + 32 - l.at) (drop l.at words)) (record-part words l.at)
    (sym stands_at.ensures ∙ c.loop-end-test.true) (sym c.admitted.ensures ∙ c.if-admitted.false)

pub offset_bounds-words-at-2 : goal.offset_bounds-words-at-2
offset_bounds-words-at-2 c =
    let pre = c.requires in
    omega (arith, c.loop-end.invariant.fits, pre.1)

pub slice_bounds-is_zero-count : goal.slice_bounds-is_zero-count
slice_bounds-is_zero-count c = omega (arith, c.loop-end.invariant.fits)

pub slice_bounds-is_zero-start : goal.slice_bounds-is_zero-start
slice_bounds-is_zero-start c = omega (arith, c.loop-end.invariant.fits)

pub slice_bounds-is_zero-end : goal.slice_bounds-is_zero-end
slice_bounds-is_zero-end c =
    let pre = c.requires in
    pre.0

pub returns : goal.returns
returns c =
    let loop = c.loop-end in
    let stands_at = c.stands_at in
    rw (c.may_stop.ensures, c.is_zero.ensures) (walking-done loop.invariant (sym stands_at.ensures ∙ c.loop-end-test.false))
