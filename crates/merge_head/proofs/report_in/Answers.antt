use Rattle.merge_head.proofs.Finding.{finding-start, finding-found, finding-pass, finding-over, alive, gone}
use Rattle.tree_merge.proofs.of_list_sums.Records.{stands-room}
use lib.ListN.{take, drop}
use native.Mathlib.Omega.{arith}
use mathlib.Core.Path.{sym, ◌∙◌}
use Prim.Native.Nat.{◌+◌, ◌-◌}
use Rattle.merge_head.proofs.report_in.Goals as goal

pub loop-end-init : goal.loop-end-init
loop-end-init c = finding-start _

pub offset_bounds-words-at : goal.offset_bounds-words-at
offset_bounds-words-at c = omega (arith, c.loop-end.invariant.fits)

pub slice_bounds-stands_here-count : goal.slice_bounds-stands_here-count
slice_bounds-stands_here-count c = omega (arith, c.loop-end.invariant.fits)

pub slice_bounds-stands_here-start : goal.slice_bounds-stands_here-start
slice_bounds-stands_here-start c = omega (arith, c.loop-end.invariant.fits)

pub overflow_add-end : goal.overflow_add-end
overflow_add-end c =
    let args = c.args in
    omega (arith, stands-room args.words.now c.loop-end.at (sym c.stands_here.ensures ∙ c.loop-end-test.true))

pub offset_bounds-words-at-in-loop-end : goal.offset_bounds-words-at-in-loop-end
offset_bounds-words-at-in-loop-end c =
    let args = c.args in
    omega (arith, stands-room args.words.now c.loop-end.at (sym c.stands_here.ensures ∙ c.loop-end-test.true))

pub slice_bounds-field-end : goal.slice_bounds-field-end
slice_bounds-field-end c =
    let args = c.args in
    omega (arith, stands-room args.words.now c.loop-end.at (sym c.stands_here.ensures ∙ c.loop-end-test.true))

pub offset_bounds-words-at-then-k-lt-DEAD : goal.offset_bounds-words-at-then-k-lt-DEAD
offset_bounds-words-at-then-k-lt-DEAD c =
    let args = c.args in
    let loop = c.loop-end in
    let stands_here = c.stands_here in
    omega (arith, stands-room args.words.now loop.at (sym stands_here.ensures ∙ c.loop-end-test.true))

pub slice_bounds-result-end : goal.slice_bounds-result-end
slice_bounds-result-end c =
    let args = c.args in
    let loop = c.loop-end in
    let stands_here = c.stands_here in
    omega (arith, stands-room args.words.now loop.at (sym stands_here.ensures ∙ c.loop-end-test.true))

pub returns-then-k-lt-DEAD : goal.returns-then-k-lt-DEAD
returns-then-k-lt-DEAD c =
    let args = c.args in
    let loop = c.loop-end in
    let stands_here = c.stands_here in
    let if1 = c.loop-end-test in
    finding-found loop.invariant (sym stands_here.ensures ∙ if1.true)
    (alive (take (loop.at + 32 - loop.at) (drop loop.at args.words.now)) c.field-k.ensures c.if-k-lt-DEAD.true)

pub loop-end-smaller : goal.loop-end-smaller
loop-end-smaller c =
    let args = c.args in
    let loop = c.loop-end in
    let stands_here = c.stands_here in
    omega (arith, stands-room args.words.now loop.at (sym stands_here.ensures ∙ c.loop-end-test.true))

pub loop-end-preserved : goal.loop-end-preserved
loop-end-preserved c =
    let args = c.args in
    let loop = c.loop-end in
    let stands_here = c.stands_here in
    finding-pass loop.invariant (sym stands_here.ensures ∙ c.loop-end-test.true)
    (gone (take (loop.at + 32 - loop.at) (drop loop.at args.words.now)) c.field-k.ensures c.if-k-lt-DEAD.false)

pub returns : goal.returns
returns c =
    let loop = c.loop-end in
    finding-over loop.invariant (sym c.stands_here.ensures ∙ c.loop-end-test.false)
