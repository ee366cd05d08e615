use Rattle.write_rows.proofs.Rows.{rows-over, rows_end, rows_row, rows_pass}
use Rattle.write_rows.proofs.Going.{goes_on, going_start, going-stop, going_end, going-pass, going-wrote}
use Rattle.write_walk.specs.of_write_items.inside.Rows.{rows_items}
use Rattle.list_sums.proofs.Records.{stands-room}
use Rattle.list_sums.specs.inside.Rows.{records_in}
use lib.ListN.{take, drop}
use borrow.Author.Rules.{rules}
use native.Mathlib.Omega.{arith}
use mathlib.Core.Path.{sym, ◌∙◌}
use Prim.Native.Nat.{◌+◌, ◌-◌}
use Rattle.write_rows.proofs.put_rows.Goals as goal

pub loop-end-init : goal.loop-end-init
loop-end-init c =
    let args = c.args in
    going_start (rows_items args.text.now args.flaky args.level args.low args.high) _ _

pub offset_bounds-words-at : goal.offset_bounds-words-at
offset_bounds-words-at c = omega (arith, c.loop-end.invariant.fits)

pub slice_bounds-stands_here-count : goal.slice_bounds-stands_here-count
slice_bounds-stands_here-count c = omega (arith, c.loop-end.invariant.fits)

pub slice_bounds-stands_here-start : goal.slice_bounds-stands_here-start
slice_bounds-stands_here-start c = omega (arith, c.loop-end.invariant.fits)

pub overflow_add-end : goal.overflow_add-end
overflow_add-end c =
    let args = c.args in
    let loop = c.loop-end in
    omega (arith, stands-room args.words.now loop.at (goes_on c.is_open.result c.stands_here.result c.loop-end-test.true c.stands_here.ensures))

pub offset_bounds-words-at-in-loop-end : goal.offset_bounds-words-at-in-loop-end
offset_bounds-words-at-in-loop-end c =
    let args = c.args in
    let loop = c.loop-end in
    omega (arith, stands-room args.words.now loop.at (goes_on c.is_open.result c.stands_here.result c.loop-end-test.true c.stands_here.ensures))

pub slice_bounds-r-end : goal.slice_bounds-r-end
slice_bounds-r-end c =
    let args = c.args in
    let loop = c.loop-end in
    omega (arith, stands-room args.words.now loop.at (goes_on c.is_open.result c.stands_here.result c.loop-end-test.true c.stands_here.ensures))

pub shape_of-events-then-ends : goal.shape_of-events-then-ends
shape_of-events-then-ends c =
    let loop = c.loop-end in
    loop.invariant.same_events

pub shape_of-attributes-then-ends : goal.shape_of-attributes-then-ends
shape_of-attributes-then-ends c =
    let loop = c.loop-end in
    loop.invariant.same_attributes

pub shape_of-bytes-then-ends : goal.shape_of-bytes-then-ends
shape_of-bytes-then-ends c =
    let loop = c.loop-end in
    loop.invariant.same_bytes

pub returns-then-ends : goal.returns-then-ends
returns-then-ends c =
    let args = c.args in
    let loop = c.loop-end in
    let is_open = c.is_open in
    let stands_here = c.stands_here in
    let if1 = c.loop-end-test in
    going_end (rows_items args.text.now args.flaky args.level args.low args.high) loop.invariant (goes_on is_open.result stands_here.result if1.true stands_here.ensures)
    (rows_end args.text.now args.flaky args.level args.low args.high (take (loop.at + 32 - loop.at) (drop loop.at args.words.now))
    (records_in (drop (loop.at + 32) args.words.now)) (rw c.field-here.ensures at (sym c.ends.ensures ∙ c.if-ends.true)))

pub loop-end-smaller-then-is_between : goal.loop-end-smaller-then-is_between
loop-end-smaller-then-is_between c =
    let args = c.args in
    let loop = c.loop-end in
    let is_open = c.is_open in
    let stands_here = c.stands_here in
    let if1 = c.loop-end-test in
    omega (arith, stands-room args.words.now loop.at (goes_on is_open.result stands_here.result if1.true stands_here.ensures))

pub loop-end-preserved-then-is_between : goal.loop-end-preserved-then-is_between
loop-end-preserved-then-is_between c =
    let args = c.args in
    let loop = c.loop-end in
    let is_open = c.is_open in
    let stands_here = c.stands_here in
    let if1 = c.loop-end-test in
    let field = c.field-here in
    let ends = c.ends in
    let if2 = c.if-ends in
    let is-between = c.is_between in
    let if3 = c.if-is_between in
    let put-row = c.put_row-mark in
    going-wrote (rows_items args.text.now args.flaky args.level args.low args.high) loop.invariant (goes_on is_open.result stands_here.result if1.true stands_here.ensures)
    _ (rows_row args.text.now args.flaky args.level args.low args.high (take (loop.at + 32 - loop.at) (drop loop.at args.words.now))
    (records_in (drop (loop.at + 32) args.words.now)) (rw field.ensures at (sym ends.ensures ∙ if2.false)) (rw field.ensures at (sym is-between.ensures ∙ if3.true)))
    put-row.ensures (search rules) (search rules) (search rules)

pub loop-end-smaller : goal.loop-end-smaller
loop-end-smaller c =
    let args = c.args in
    let loop = c.loop-end in
    let is_open = c.is_open in
    let stands_here = c.stands_here in
    let if1 = c.loop-end-test in
    omega (arith, stands-room args.words.now loop.at (goes_on is_open.result stands_here.result if1.true stands_here.ensures))

pub loop-end-preserved : goal.loop-end-preserved
loop-end-preserved c =
    let args = c.args in
    let loop = c.loop-end in
    let is_open = c.is_open in
    let stands_here = c.stands_here in
    let if1 = c.loop-end-test in
    let field = c.field-here in
    going-pass (rows_items args.text.now args.flaky args.level args.low args.high) loop.invariant
    (goes_on is_open.result stands_here.result if1.true stands_here.ensures) (rows_pass args.text.now args.flaky args.level
    args.low args.high (take (loop.at + 32 - loop.at) (drop loop.at args.words.now)) (records_in (drop (loop.at + 32) args.words.now))
    (rw field.ensures at (sym c.ends.ensures ∙ c.if-ends.false)) (rw field.ensures at (sym c.is_between.ensures ∙ c.if-is_between.false)))

pub shape_of-events : goal.shape_of-events
shape_of-events c =
    let loop = c.loop-end in
    loop.invariant.same_events

pub shape_of-attributes : goal.shape_of-attributes
shape_of-attributes c =
    let loop = c.loop-end in
    loop.invariant.same_attributes

pub shape_of-bytes : goal.shape_of-bytes
shape_of-bytes c =
    let loop = c.loop-end in
    loop.invariant.same_bytes

pub returns : goal.returns
returns c =
    let args = c.args in
    let loop = c.loop-end in
    going-stop (rows_items args.text.now args.flaky args.level args.low args.high) loop.invariant c.is_open.result c.stands_here.result
    (rows-over args.text.now args.flaky args.level args.low args.high) c.loop-end-test.false c.is_open.ensures c.stands_here.ensures
