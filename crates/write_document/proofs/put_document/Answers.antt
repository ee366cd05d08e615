use Rattle.write_document.proofs.Documents.{going-over, going-last, document-over, document-live, document-dead}
use Rattle.write_marks.specs.of_write_items.inside.Document.{document_in}
use Rattle.write_suite.proofs.of_write_rows.Going.{going_start, going-pass}
use Rattle.list_sums.proofs.Records.{stands-room, records-behind}
use Rattle.list_sums.specs.inside.Rows.{records_in}
use lib.ListN.{take, drop, get_or}
use borrow.Author.Tests.{lt-ltb, le-ltb}
use native.Mathlib.Omega.{arith}
use mathlib.Core.Path.{sym, ◌∙◌}
use Prim.Native.Nat.{◌+◌, ◌-◌}
use Rattle.write_document.proofs.put_document.Goals as goal

pub loop-end-init : goal.loop-end-init
loop-end-init c =
    let args = c.args in
    going_start (document_in args.text.now) _ _

pub offset_bounds-words-at : goal.offset_bounds-words-at
offset_bounds-words-at c = omega (arith, c.loop-end.invariant.fits)

pub slice_bounds-stands_here-count : goal.slice_bounds-stands_here-count
slice_bounds-stands_here-count c = omega (arith, c.loop-end.invariant.fits)

pub slice_bounds-stands_here-start : goal.slice_bounds-stands_here-start
slice_bounds-stands_here-start c = omega (arith, c.loop-end.invariant.fits)

pub overflow_add-end : goal.overflow_add-end
overflow_add-end c =
    let args = c.args in
    omega (arith, stands-room args.words.now c.loop-end.at (sym c.stands_here.ensures ∙ c.loop-end-test.true))

pub offset_bounds-words-at-in-loop-end : goal.offset_bounds-words-at-in-loop-end
offset_bounds-words-at-in-loop-end c =
    let args = c.args in
    omega (arith, stands-room args.words.now c.loop-end.at (sym c.stands_here.ensures ∙ c.loop-end-test.true))

pub slice_bounds-r-end : goal.slice_bounds-r-end
slice_bounds-r-end c =
    let args = c.args in
    omega (arith, stands-room args.words.now c.loop-end.at (sym c.stands_here.ensures ∙ c.loop-end-test.true))

pub offset_bounds-words-end : goal.offset_bounds-words-end
offset_bounds-words-end c =
    let args = c.args in
    let loop = c.loop-end in
    let stands_here = c.stands_here in
    let if1 = c.loop-end-test in
    omega (arith, stands-room args.words.now loop.at (sym stands_here.ensures ∙ if1.true))

pub slice_bounds-put_whole-count : goal.slice_bounds-put_whole-count
slice_bounds-put_whole-count c =
    let args = c.args in
    let loop = c.loop-end in
    let stands_here = c.stands_here in
    let if1 = c.loop-end-test in
    omega (arith, stands-room args.words.now loop.at (sym stands_here.ensures ∙ if1.true))

pub slice_bounds-put_whole-start : goal.slice_bounds-put_whole-start
slice_bounds-put_whole-start c =
    let args = c.args in
    let loop = c.loop-end in
    let stands_here = c.stands_here in
    let if1 = c.loop-end-test in
    omega (arith, stands-room args.words.now loop.at (sym stands_here.ensures ∙ if1.true))

pub shape_of-events-then-field-lt-DEAD : goal.shape_of-events-then-field-lt-DEAD
shape_of-events-then-field-lt-DEAD c =
    let loop = c.loop-end in
    omega (arith, loop.invariant.same_events)

pub shape_of-attributes-then-field-lt-DEAD : goal.shape_of-attributes-then-field-lt-DEAD
shape_of-attributes-then-field-lt-DEAD c =
    let loop = c.loop-end in
    omega (arith, loop.invariant.same_attributes)

pub shape_of-bytes-then-field-lt-DEAD : goal.shape_of-bytes-then-field-lt-DEAD
shape_of-bytes-then-field-lt-DEAD c =
    let loop = c.loop-end in
    omega (arith, loop.invariant.same_bytes)

pub returns-then-field-lt-DEAD : goal.returns-then-field-lt-DEAD
returns-then-field-lt-DEAD c =
    let at-loop = c in
    let args = at-loop.args in
    let stands_here = c.stands_here in
    let if1 = c.loop-end-test in
    let field = c.field in
    let if2 = c.if-field-lt-DEAD in
    let put_whole = c.put_whole in
    going-last (document_in args.text.now) at-loop.loop-end.invariant _ (sym stands_here.ensures ∙ if1.true) (document-live args.text.now
    (take (at-loop.loop-end.at + 32 - at-loop.loop-end.at) (drop at-loop.loop-end.at args.words.now)) (records_in (drop (at-loop.loop-end.at + 32) args.words.now))
    (lt-ltb (get_or (take (at-loop.loop-end.at + 32 - at-loop.loop-end.at) (drop at-loop.loop-end.at args.words.now)) 0 0) 16 (rw field.ensures at if2.true)))
    (rw (records-behind args.words.now at-loop.loop-end.at) at put_whole.ensures)

pub loop-end-smaller : goal.loop-end-smaller
loop-end-smaller c =
    let args = c.args in
    let loop = c.loop-end in
    let stands_here = c.stands_here in
    omega (arith, stands-room args.words.now loop.at (sym stands_here.ensures ∙ c.loop-end-test.true))

pub loop-end-preserved : goal.loop-end-preserved
loop-end-preserved c =
    let args = c.args in
    let loop = c.loop-end in
    let stands_here = c.stands_here in
    going-pass (document_in args.text.now) loop.invariant (sym stands_here.ensures ∙ c.loop-end-test.true)
    (document-dead args.text.now (take (loop.at + 32 - loop.at) (drop loop.at args.words.now)) (records_in (drop (loop.at + 32) args.words.now))
    (le-ltb (get_or (take (loop.at + 32 - loop.at) (drop loop.at args.words.now)) 0 0) 16 (rw c.field.ensures at c.if-field-lt-DEAD.false)))

pub shape_of-events : goal.shape_of-events
shape_of-events c = c.loop-end.invariant.same_events

pub shape_of-attributes : goal.shape_of-attributes
shape_of-attributes c = c.loop-end.invariant.same_attributes

pub shape_of-bytes : goal.shape_of-bytes
shape_of-bytes c = c.loop-end.invariant.same_bytes

pub returns : goal.returns
returns c =
    let args = c.args in
    going-over (document_in args.text.now) c.loop-end.invariant (document-over args.text.now) (sym c.stands_here.ensures ∙ c.loop-end-test.false)
