use Prim.Native.Nat.{ℕ, ◌+◌, ◌-◌, ◌≤◌}
use mathlib.Core.List.{List}
use mathlib.Core.Bool.{true}
use mathlib.Core.Path.{◌≡◌, sym, ◌∙◌}
use native.Mathlib.Omega.{arith}
use borrow.Author.Tests.{eq-eqb, ne_eqb}
use borrow.Author.Rules.{rules}
use lib.ListN.{length, take, drop, get_or}
use Rattle.list_case.specs.of_list_sums.inside.Rows.{stands, records_in}
use Rattle.list_case.proofs.of_list_sums.Records.{records-behind, stands-room}
use Rattle.list_case.proofs.Going.{goes_on, going_start, going-stop, going-pass, going-puts}
use Rattle.list_suites.specs.inside.Shown.{suite_shown, suites_shown}
use Rattle.list_suites.proofs.Unrolling.{suites-over, suites-suite, suites-other}
use Rattle.list_suites.proofs.put_suites.Goals as goal
use Rattle.list_suites.proofs.put_suites.Goals.{In-loop-end}

abbrev words : In-loop-end → List ℕ
words c =
    let args = c.args in
    args.words.now

abbrev at : In-loop-end → ℕ
at c =
    let loop = c.loop-end in
    loop.at

-- the record at hand, and those behind it
abbrev here : In-loop-end → List ℕ
here c = take (at c + 32 - at c) (drop (at c) (words c))

abbrev rest : In-loop-end → List (List ℕ)
rest c = records_in (drop (at c + 32) (words c))

stands-now : (c : In-loop-end) → stands (take (length (words c) - at c) (drop (at c) (words c))) ≡ true
stands-now c = goes_on c.is_open.result c.stands_here.result c.loop-end-test.true c.stands_here.ensures

room : (c : In-loop-end) → at c + 32 ≤ length (words c)
room c = stands-room (words c) (at c) (stands-now c)

pub loop-end-init : goal.loop-end-init
loop-end-init c = going_start (suites_shown c.args.text.now) _ _ _

pub offset_bounds-words-at : goal.offset_bounds-words-at
offset_bounds-words-at c = omega (arith, c.loop-end.invariant.fits)

pub slice_bounds-stands_here-count : goal.slice_bounds-stands_here-count
slice_bounds-stands_here-count c = omega (arith, c.loop-end.invariant.fits)

pub slice_bounds-stands_here-start : goal.slice_bounds-stands_here-start
slice_bounds-stands_here-start c = omega (arith, c.loop-end.invariant.fits)

pub overflow_add-end : goal.overflow_add-end
overflow_add-end c = omega (arith, room (goal.at.overflow_add-end c).In-loop-end)

pub offset_bounds-words-at-in-loop-end : goal.offset_bounds-words-at-in-loop-end
offset_bounds-words-at-in-loop-end c = omega (arith, room (goal.at.offset_bounds-words-at-in-loop-end c).In-loop-end)

pub slice_bounds-r-end : goal.slice_bounds-r-end
slice_bounds-r-end c = omega (arith, room (goal.at.slice_bounds-r-end c).In-loop-end)

pub offset_bounds-words-end : goal.offset_bounds-words-end
offset_bounds-words-end c =
    let at-then1 = c in
    omega (arith, room (goal.at.offset_bounds-words-end c).In-loop-end)

pub slice_bounds-put_suite-count : goal.slice_bounds-put_suite-count
slice_bounds-put_suite-count c =
    let at-then1 = c in
    omega (arith, room (goal.at.slice_bounds-put_suite-count c).In-loop-end)

pub slice_bounds-put_suite-start : goal.slice_bounds-put_suite-start
slice_bounds-put_suite-start c =
    let at-then1 = c in
    omega (arith, room (goal.at.slice_bounds-put_suite-start c).In-loop-end)

pub loop-end-smaller-then-field-eq-SUITE : goal.loop-end-smaller-then-field-eq-SUITE
loop-end-smaller-then-field-eq-SUITE c =
    let at-then1 = c in
    omega (arith, room (goal.at.loop-end-smaller-then-field-eq-SUITE c).In-loop-end)

pub loop-end-preserved-then-field-eq-SUITE : goal.loop-end-preserved-then-field-eq-SUITE
loop-end-preserved-then-field-eq-SUITE c =
    let loop = c.loop-end in
    let field = c.field in
    let if2 = c.if-field-eq-SUITE in
    let t = c in
    let text = c.args.text.now in
    let e = suites-suite text (here (goal.at.loop-end-preserved-then-field-eq-SUITE c).In-loop-end) (rest (goal.at.loop-end-preserved-then-field-eq-SUITE c).In-loop-end) (eq-eqb (get_or (here (goal.at.loop-end-preserved-then-field-eq-SUITE c).In-loop-end) 0 0) 2 (sym field.ensures ∙ if2.true)) in
    let p = rw (records-behind (words (goal.at.loop-end-preserved-then-field-eq-SUITE c).In-loop-end) (at (goal.at.loop-end-preserved-then-field-eq-SUITE c).In-loop-end)) at c.put_suite-mark.ensures in
    going-puts (suites_shown text) loop.invariant (stands-now (goal.at.loop-end-preserved-then-field-eq-SUITE c).In-loop-end) (suite_shown text (here (goal.at.loop-end-preserved-then-field-eq-SUITE c).In-loop-end) (rest (goal.at.loop-end-preserved-then-field-eq-SUITE c).In-loop-end)) e p (search rules)

pub loop-end-smaller : goal.loop-end-smaller
loop-end-smaller c = omega (arith, room (goal.at.loop-end-smaller c).In-loop-end)

pub loop-end-preserved : goal.loop-end-preserved
loop-end-preserved c =
    let loop = c.loop-end in
    let t = c in
    let text = c.args.text.now in
    going-pass (suites_shown text) loop.invariant (stands-now (goal.at.loop-end-preserved c).In-loop-end) (suites-other text (here (goal.at.loop-end-preserved c).In-loop-end) (rest (goal.at.loop-end-preserved c).In-loop-end) (ne_eqb (get_or (here (goal.at.loop-end-preserved c).In-loop-end) 0 0) 2 (λ e. c.if-field-eq-SUITE.false (c.field.ensures ∙ e))))

pub shape_of-out : goal.shape_of-out
shape_of-out c =
    let loop = c.loop-end in
    loop.invariant.same

pub returns : goal.returns
returns c =
    let loop = c.loop-end in
    let free = c.is_open in
    let more = c.stands_here in
    let text = c.args.text.now in
    going-stop (suites_shown text) loop.invariant free.result more.result (suites-over text) c.loop-end-test.false free.ensures more.ensures
