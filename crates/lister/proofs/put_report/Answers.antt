use Prim.Native.Nat.{ℕ, ◌+◌, ◌-◌, ◌≤◌}
use mathlib.Core.List.{List}
use mathlib.Core.Bool.{true}
use mathlib.Core.Path.{◌≡◌, sym, ap, ◌∙◌}
use native.Mathlib.Omega.{arith}
use borrow.Author.Tests.{lt-ltb, le-ltb}
use lib.ListN.{length, take, drop, get_or}
use Rattle.std.specs.Prelude.{Some}
use Rattle.list_suites.specs.of_list_sums.inside.Rows.{stands, records_in}
use Rattle.list_suites.proofs.of_list_sums.Records.{records-behind, stands-room}
use Rattle.list_suites.proofs.of_list_case.Going.{seeking-start, seeking-pass, seeking-found, seeking-none}
use Rattle.lister.specs.inside.Shown.{report_shown}
use Rattle.lister.proofs.Unrolling.{report-over, report-dead, report-live}
use Rattle.lister.proofs.put_report.Goals as goal
use Rattle.lister.proofs.put_report.Goals.{In-loop-end}

abbrev words : In-loop-end → List ℕ
words c =
    let args = c.args in
    args.words.now

abbrev at : In-loop-end → ℕ
at c = c.loop-end.at

-- the record at hand, and those behind it
abbrev here : In-loop-end → List ℕ
here c = take (at c + 32 - at c) (drop (at c) (words c))

abbrev rest : In-loop-end → List (List ℕ)
rest c = records_in (drop (at c + 32) (words c))

stands-now : (c : In-loop-end) → stands (take (length (words c) - at c) (drop (at c) (words c))) ≡ true
stands-now c = sym c.stands_here.ensures ∙ c.loop-end-test.true

room : (c : In-loop-end) → at c + 32 ≤ length (words c)
room c = stands-room (words c) (at c) (stands-now c)

pub loop-end-init : goal.loop-end-init
loop-end-init c = seeking-start (report_shown c.args.text.now) _ _

pub offset_bounds-words-at : goal.offset_bounds-words-at
offset_bounds-words-at c = omega (arith, c.loop-end.invariant.fits)

pub slice_bounds-stands_here-count : goal.slice_bounds-stands_here-count
slice_bounds-stands_here-count c = omega (arith, c.loop-end.invariant.fits)

pub slice_bounds-stands_here-start : goal.slice_bounds-stands_here-start
slice_bounds-stands_here-start c = omega (arith, c.loop-end.invariant.fits)

pub overflow_add-end : goal.overflow_add-end
overflow_add-end c = omega (arith, room (goal.at.overflow_add-end c).In-loop-end)

pub offset_bounds-words-at-in-loop-end : goal.offset_bounds-words-at-in-loop-end
offset_bounds-words-at-in-loop-end c = omega (arith, room (goal.at.offset_bounds-words-at-in-loop-end c).In-loop-end)

pub slice_bounds-r-end : goal.slice_bounds-r-end
slice_bounds-r-end c = omega (arith, room (goal.at.slice_bounds-r-end c).In-loop-end)

pub offset_bounds-words-end : goal.offset_bounds-words-end
offset_bounds-words-end c =
    let at-then1 = c in
    omega (arith, room (goal.at.offset_bounds-words-end c).In-loop-end)

pub slice_bounds-put_whole-count : goal.slice_bounds-put_whole-count
slice_bounds-put_whole-count c =
    let at-then1 = c in
    omega (arith, room (goal.at.slice_bounds-put_whole-count c).In-loop-end)

pub slice_bounds-put_whole-start : goal.slice_bounds-put_whole-start
slice_bounds-put_whole-start c =
    let at-then1 = c in
    omega (arith, room (goal.at.slice_bounds-put_whole-start c).In-loop-end)

pub shape_of-out-then-field-lt-DEAD : goal.shape_of-out-then-field-lt-DEAD
shape_of-out-then-field-lt-DEAD c =
    let loop = c.loop-end in
    omega (arith, ap length loop.invariant.same)

pub returns-then-field-lt-DEAD : goal.returns-then-field-lt-DEAD
returns-then-field-lt-DEAD c =
    let loop = c.loop-end in
    let field = c.field in
    let if2 = c.if-field-lt-DEAD in
    let t = c in
    let text = c.args.text.now in
    let e = report-live text (here (goal.at.returns-then-field-lt-DEAD c).In-loop-end) (rest (goal.at.returns-then-field-lt-DEAD c).In-loop-end) (lt-ltb (get_or (here (goal.at.returns-then-field-lt-DEAD c).In-loop-end) 0 0) 16 (rw field.ensures at if2.true)) in
    let p = rw (records-behind (words (goal.at.returns-then-field-lt-DEAD c).In-loop-end) (at (goal.at.returns-then-field-lt-DEAD c).In-loop-end)) at c.put_whole.ensures in
    seeking-found (report_shown text) loop.invariant (stands-now (goal.at.returns-then-field-lt-DEAD c).In-loop-end) (Some 0) e p

pub loop-end-smaller : goal.loop-end-smaller
loop-end-smaller c = omega (arith, room (goal.at.loop-end-smaller c).In-loop-end)

pub loop-end-preserved : goal.loop-end-preserved
loop-end-preserved c =
    let loop = c.loop-end in
    let t = c in
    let text = c.args.text.now in
    let e = report-dead text (here (goal.at.loop-end-preserved c).In-loop-end) (rest (goal.at.loop-end-preserved c).In-loop-end) (le-ltb (get_or (here (goal.at.loop-end-preserved c).In-loop-end) 0 0) 16 (rw c.field.ensures at c.if-field-lt-DEAD.false)) in
    seeking-pass (report_shown text) loop.invariant (stands-now (goal.at.loop-end-preserved c).In-loop-end) e

pub shape_of-out : goal.shape_of-out
shape_of-out c = ap length c.loop-end.invariant.same

pub returns : goal.returns
returns c =
    let text = c.args.text.now in
    seeking-none (report_shown text) c.loop-end.invariant (Some 0) (report-over text) (sym c.stands_here.ensures ∙ c.loop-end-test.false)
