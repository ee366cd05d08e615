use Rattle.merge_records.proofs.Counting.{here, below-kind, counting-start, counting_more, counting-pass, counting-done, counting-most}
use Rattle.merge_rows.proofs.of_list_sums.Records.{stands-room}
use native.Mathlib.Omega.{arith}
use mathlib.Core.Path.{sym, ◌∙◌}
use Prim.Native.Nat.{◌-◌}
use Rattle.merge_records.proofs.needs_of.Goals as goal

pub loop-end-init : goal.loop-end-init
loop-end-init c = counting-start _

pub offset_bounds-words-at : goal.offset_bounds-words-at
offset_bounds-words-at c = omega (arith, c.loop-end.invariant.fits)

pub slice_bounds-stands_here-count : goal.slice_bounds-stands_here-count
slice_bounds-stands_here-count c = omega (arith, c.loop-end.invariant.fits)

pub slice_bounds-stands_here-start : goal.slice_bounds-stands_here-start
slice_bounds-stands_here-start c = omega (arith, c.loop-end.invariant.fits)

pub overflow_add-end : goal.overflow_add-end
overflow_add-end c =
    let args = c.args in
    omega (arith, stands-room args.words.now c.loop-end.at (sym c.stands_here.ensures ∙ c.loop-end-test.true))

pub offset_bounds-words-at-in-loop-end : goal.offset_bounds-words-at-in-loop-end
offset_bounds-words-at-in-loop-end c =
    let args = c.args in
    omega (arith, stands-room args.words.now c.loop-end.at (sym c.stands_here.ensures ∙ c.loop-end-test.true))

pub slice_bounds-r-end : goal.slice_bounds-r-end
slice_bounds-r-end c =
    let args = c.args in
    omega (arith, stands-room args.words.now c.loop-end.at (sym c.stands_here.ensures ∙ c.loop-end-test.true))

pub overflow_add-records : goal.overflow_add-records
overflow_add-records c =
    let pre = c.requires in
    let loop = c.loop-end in
    omega (arith, loop.invariant.few, loop.invariant.fits, pre)

pub overflow_add-bytes : goal.overflow_add-bytes
overflow_add-bytes c =
    let pre = c.requires in
    let loop = c.loop-end in
    omega (arith, loop.invariant.small, loop.invariant.fits, pre, c.sizes_of-bytes.ensures.upper_bound)

pub loop-end-smaller-then-is_below : goal.loop-end-smaller-then-is_below
loop-end-smaller-then-is_below c =
    let args = c.args in
    let loop = c.loop-end in
    let stands_here = c.stands_here in
    let if1 = c.loop-end-test in
    omega (arith, stands-room args.words.now loop.at (sym stands_here.ensures ∙ if1.true))

pub loop-end-preserved-then-is_below : goal.loop-end-preserved-then-is_below
loop-end-preserved-then-is_below c =
    let args = c.args in
    let loop = c.loop-end in
    let stands_here = c.stands_here in
    let if1 = c.loop-end-test in
    counting_more loop.invariant (sym stands_here.ensures ∙ if1.true) (below-kind (here args.words.now loop.at) c.field.ensures
    c.is_below.ensures c.if-is_below.true) c.sizes_of-bytes.ensures.value c.sizes_of-bytes.ensures.upper_bound

pub loop-end-smaller : goal.loop-end-smaller
loop-end-smaller c =
    let args = c.args in
    let loop = c.loop-end in
    let stands_here = c.stands_here in
    let if1 = c.loop-end-test in
    omega (arith, stands-room args.words.now loop.at (sym stands_here.ensures ∙ if1.true))

pub loop-end-preserved : goal.loop-end-preserved
loop-end-preserved c =
    let args = c.args in
    let loop = c.loop-end in
    let stands_here = c.stands_here in
    let if1 = c.loop-end-test in
    counting-pass loop.invariant (sym stands_here.ensures ∙ if1.true)
    (below-kind (here args.words.now loop.at) c.field.ensures c.is_below.ensures c.if-is_below.false)

pub returns : goal.returns
returns c = record { records_value = counting-done c.loop-end.invariant (sym c.stands_here.ensures ∙ c.loop-end-test.false); records_in_bounds = counting-most c.loop-end.invariant }
