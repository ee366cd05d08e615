use Rattle.write_suite.proofs.Suites.{cases-over, cases_end, cases-case, cases_other}
use Rattle.write_walk.specs.of_write_items.inside.Suite.{cases_items}
use Rattle.write_rows.proofs.Going.{goes_on, going_start, going-stop, going_end, going-pass, going-wrote}
use Rattle.list_sums.proofs.Records.{stands-room, records-behind}
use Rattle.list_sums.specs.inside.Rows.{records_in}
use lib.ListN.{take, drop}
use borrow.Author.Rules.{rules}
use native.Mathlib.Omega.{arith}
use mathlib.Core.Path.{sym, ◌∙◌}
use Prim.Native.Nat.{◌+◌, ◌-◌}
use Rattle.write_suite.proofs.put_cases.Goals as goal

pub loop-end-init : goal.loop-end-init
loop-end-init c =
    let args = c.args in
    going_start (cases_items args.text.now) _ _

pub offset_bounds-words-at : goal.offset_bounds-words-at
offset_bounds-words-at c = omega (arith, c.loop-end.invariant.fits)

pub slice_bounds-stands_here-count : goal.slice_bounds-stands_here-count
slice_bounds-stands_here-count c = omega (arith, c.loop-end.invariant.fits)

pub slice_bounds-stands_here-start : goal.slice_bounds-stands_here-start
slice_bounds-stands_here-start c = omega (arith, c.loop-end.invariant.fits)

pub overflow_add-end : goal.overflow_add-end
overflow_add-end c =
    let args = c.args in
    let loop = c.loop-end in
    omega (arith, stands-room args.words.now loop.at (goes_on c.is_open.result c.stands_here.result c.loop-end-test.true c.stands_here.ensures))

pub offset_bounds-words-at-in-loop-end : goal.offset_bounds-words-at-in-loop-end
offset_bounds-words-at-in-loop-end c =
    let args = c.args in
    let loop = c.loop-end in
    omega (arith, stands-room args.words.now loop.at (goes_on c.is_open.result c.stands_here.result c.loop-end-test.true c.stands_here.ensures))

pub slice_bounds-r-end : goal.slice_bounds-r-end
slice_bounds-r-end c =
    let args = c.args in
    let loop = c.loop-end in
    omega (arith, stands-room args.words.now loop.at (goes_on c.is_open.result c.stands_here.result c.loop-end-test.true c.stands_here.ensures))

pub shape_of-events-then-here-eq-SUITE : goal.shape_of-events-then-here-eq-SUITE
shape_of-events-then-here-eq-SUITE c =
    let loop = c.loop-end in
    loop.invariant.same_events

pub shape_of-attributes-then-here-eq-SUITE : goal.shape_of-attributes-then-here-eq-SUITE
shape_of-attributes-then-here-eq-SUITE c =
    let loop = c.loop-end in
    loop.invariant.same_attributes

pub shape_of-bytes-then-here-eq-SUITE : goal.shape_of-bytes-then-here-eq-SUITE
shape_of-bytes-then-here-eq-SUITE c =
    let loop = c.loop-end in
    loop.invariant.same_bytes

pub returns-then-here-eq-SUITE : goal.returns-then-here-eq-SUITE
returns-then-here-eq-SUITE c =
    let args = c.args in
    let loop = c.loop-end in
    let is_open = c.is_open in
    let stands_here = c.stands_here in
    going_end (cases_items args.text.now) loop.invariant (goes_on is_open.result stands_here.result c.loop-end-test.true stands_here.ensures) (cases_end args.text.now
    (take (loop.at + 32 - loop.at) (drop loop.at args.words.now)) (records_in (drop (loop.at + 32) args.words.now)) (sym c.field-here.ensures ∙ c.if-here-eq-SUITE.true))

pub offset_bounds-words-end : goal.offset_bounds-words-end
offset_bounds-words-end c =
    let args = c.args in
    let loop = c.loop-end in
    let is_open = c.is_open in
    let stands_here = c.stands_here in
    let if1 = c.loop-end-test in
    omega (arith, stands-room args.words.now loop.at (goes_on is_open.result stands_here.result if1.true stands_here.ensures))

pub slice_bounds-put_case-count : goal.slice_bounds-put_case-count
slice_bounds-put_case-count c =
    let args = c.args in
    let loop = c.loop-end in
    let is_open = c.is_open in
    let stands_here = c.stands_here in
    let if1 = c.loop-end-test in
    omega (arith, stands-room args.words.now loop.at (goes_on is_open.result stands_here.result if1.true stands_here.ensures))

pub slice_bounds-put_case-start : goal.slice_bounds-put_case-start
slice_bounds-put_case-start c =
    let args = c.args in
    let loop = c.loop-end in
    let is_open = c.is_open in
    let stands_here = c.stands_here in
    let if1 = c.loop-end-test in
    omega (arith, stands-room args.words.now loop.at (goes_on is_open.result stands_here.result if1.true stands_here.ensures))

pub loop-end-smaller-then-here-eq-CASE : goal.loop-end-smaller-then-here-eq-CASE
loop-end-smaller-then-here-eq-CASE c =
    let args = c.args in
    let loop = c.loop-end in
    let is_open = c.is_open in
    let stands_here = c.stands_here in
    let if1 = c.loop-end-test in
    omega (arith, stands-room args.words.now loop.at (goes_on is_open.result stands_here.result if1.true stands_here.ensures))

pub loop-end-preserved-then-here-eq-CASE : goal.loop-end-preserved-then-here-eq-CASE
loop-end-preserved-then-here-eq-CASE c =
    let args = c.args in
    let loop = c.loop-end in
    let is_open = c.is_open in
    let stands_here = c.stands_here in
    let if1 = c.loop-end-test in
    let field = c.field-here in
    let if2 = c.if-here-eq-SUITE in
    let if3 = c.if-here-eq-CASE in
    let put-case = c.put_case-mark in
    going-wrote (cases_items args.text.now) loop.invariant (goes_on is_open.result stands_here.result if1.true stands_here.ensures) _
    (cases-case args.text.now (take (loop.at + 32 - loop.at) (drop loop.at args.words.now)) (records_in (drop (loop.at + 32) args.words.now)) (λ z.
    if2.false (field.ensures ∙ z)) (sym field.ensures ∙ if3.true)) (rw (records-behind args.words.now loop.at) at put-case.ensures) (search rules) (search rules) (search rules)

pub loop-end-smaller : goal.loop-end-smaller
loop-end-smaller c =
    let args = c.args in
    let loop = c.loop-end in
    let is_open = c.is_open in
    let stands_here = c.stands_here in
    let if1 = c.loop-end-test in
    omega (arith, stands-room args.words.now loop.at (goes_on is_open.result stands_here.result if1.true stands_here.ensures))

pub loop-end-preserved : goal.loop-end-preserved
loop-end-preserved c =
    let args = c.args in
    let loop = c.loop-end in
    let is_open = c.is_open in
    let stands_here = c.stands_here in
    let if1 = c.loop-end-test in
    going-pass (cases_items args.text.now) loop.invariant (goes_on is_open.result stands_here.result if1.true stands_here.ensures)
    (cases_other args.text.now (take (loop.at + 32 - loop.at) (drop loop.at args.words.now)) (records_in (drop (loop.at + 32) args.words.now))
    (λ z. c.if-here-eq-SUITE.false (c.field-here.ensures ∙ z)) (λ z. c.if-here-eq-CASE.false (c.field-here.ensures ∙ z)))

pub shape_of-events : goal.shape_of-events
shape_of-events c =
    let loop = c.loop-end in
    loop.invariant.same_events

pub shape_of-attributes : goal.shape_of-attributes
shape_of-attributes c =
    let loop = c.loop-end in
    loop.invariant.same_attributes

pub shape_of-bytes : goal.shape_of-bytes
shape_of-bytes c =
    let loop = c.loop-end in
    loop.invariant.same_bytes

pub returns : goal.returns
returns c =
    let args = c.args in
    let loop = c.loop-end in
    going-stop (cases_items args.text.now) loop.invariant c.is_open.result c.stands_here.result
    (cases-over args.text.now) c.loop-end-test.false c.is_open.ensures c.stands_here.ensures
