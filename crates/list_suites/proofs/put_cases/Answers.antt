use Prim.Native.Nat.{ℕ, ◌+◌, ◌-◌, ◌≤◌}
use mathlib.Core.List.{List}
use mathlib.Core.Bool.{true}
use mathlib.Core.Path.{◌≡◌, sym, ◌∙◌}
use native.Mathlib.Omega.{arith}
use borrow.Author.Tests.{eq-eqb, ne_eqb}
use borrow.Author.Rules.{rules}
use lib.ListN.{length, take, drop, get_or}
use Rattle.list_case.specs.of_list_sums.inside.Rows.{stands, records_in}
use Rattle.list_case.specs.inside.Shown.{case_shown}
use Rattle.list_case.proofs.of_list_sums.Records.{records-behind, stands-room}
use Rattle.list_case.proofs.Going.{goes_on, going_start, going-stop, going_end, going-pass, going-puts}
use Rattle.list_suites.specs.inside.Shown.{cases_shown}
use Rattle.list_suites.proofs.Unrolling.{cases-over, cases_end, cases-case, cases_other}
use Rattle.list_suites.proofs.put_cases.Goals as goal
use Rattle.list_suites.proofs.put_cases.Goals.{In-loop-end}

abbrev words : In-loop-end → List ℕ
words c =
    let args = c.args in
    args.words.now

abbrev at : In-loop-end → ℕ
at c =
    let loop = c.loop-end in
    loop.at

-- the record at hand, and those behind it
abbrev here : In-loop-end → List ℕ
here c = take (at c + 32 - at c) (drop (at c) (words c))

abbrev rest : In-loop-end → List (List ℕ)
rest c = records_in (drop (at c + 32) (words c))

stands-now : (c : In-loop-end) → stands (take (length (words c) - at c) (drop (at c) (words c))) ≡ true
stands-now c = goes_on c.is_open.result c.stands_here.result c.loop-end-test.true c.stands_here.ensures

room : (c : In-loop-end) → at c + 32 ≤ length (words c)
room c = stands-room (words c) (at c) (stands-now c)

pub loop-end-init : goal.loop-end-init
loop-end-init c = going_start (cases_shown c.args.text.now) _ _ _

pub offset_bounds-words-at : goal.offset_bounds-words-at
offset_bounds-words-at c = omega (arith, c.loop-end.invariant.fits)

pub slice_bounds-stands_here-count : goal.slice_bounds-stands_here-count
slice_bounds-stands_here-count c = omega (arith, c.loop-end.invariant.fits)

pub slice_bounds-stands_here-start : goal.slice_bounds-stands_here-start
slice_bounds-stands_here-start c = omega (arith, c.loop-end.invariant.fits)

pub overflow_add-end : goal.overflow_add-end
overflow_add-end c = omega (arith, room (goal.at.overflow_add-end c).In-loop-end)

pub offset_bounds-words-at-in-loop-end : goal.offset_bounds-words-at-in-loop-end
offset_bounds-words-at-in-loop-end c = omega (arith, room (goal.at.offset_bounds-words-at-in-loop-end c).In-loop-end)

pub slice_bounds-r-end : goal.slice_bounds-r-end
slice_bounds-r-end c = omega (arith, room (goal.at.slice_bounds-r-end c).In-loop-end)

pub shape_of-out-then-here-eq-SUITE : goal.shape_of-out-then-here-eq-SUITE
shape_of-out-then-here-eq-SUITE c =
    let loop = c.loop-end in
    loop.invariant.same

pub returns-then-here-eq-SUITE : goal.returns-then-here-eq-SUITE
returns-then-here-eq-SUITE c =
    let loop = c.loop-end in
    let t = c in
    let text = c.args.text.now in
    going_end (cases_shown text) loop.invariant (stands-now (goal.at.returns-then-here-eq-SUITE c).In-loop-end) (cases_end text (here (goal.at.returns-then-here-eq-SUITE c).In-loop-end) (rest (goal.at.returns-then-here-eq-SUITE c).In-loop-end) (eq-eqb (get_or (here (goal.at.returns-then-here-eq-SUITE c).In-loop-end) 0 0) 2 (sym c.field-here.ensures ∙ c.if-here-eq-SUITE.true)))

pub offset_bounds-words-end : goal.offset_bounds-words-end
offset_bounds-words-end c =
    let at-then1 = c in
    omega (arith, room (goal.at.offset_bounds-words-end c).In-loop-end)

pub slice_bounds-put_case-count : goal.slice_bounds-put_case-count
slice_bounds-put_case-count c =
    let at-then1 = c in
    omega (arith, room (goal.at.slice_bounds-put_case-count c).In-loop-end)

pub slice_bounds-put_case-start : goal.slice_bounds-put_case-start
slice_bounds-put_case-start c =
    let at-then1 = c in
    omega (arith, room (goal.at.slice_bounds-put_case-start c).In-loop-end)

pub loop-end-smaller-then-here-eq-CASE : goal.loop-end-smaller-then-here-eq-CASE
loop-end-smaller-then-here-eq-CASE c =
    let at-then1 = c in
    omega (arith, room (goal.at.loop-end-smaller-then-here-eq-CASE c).In-loop-end)

pub loop-end-preserved-then-here-eq-CASE : goal.loop-end-preserved-then-here-eq-CASE
loop-end-preserved-then-here-eq-CASE c =
    let loop = c.loop-end in
    let field = c.field-here in
    let if2 = c.if-here-eq-SUITE in
    let if3 = c.if-here-eq-CASE in
    let t = c in
    let text = c.args.text.now in
    let e = cases-case text (here (goal.at.loop-end-preserved-then-here-eq-CASE c).In-loop-end) (rest (goal.at.loop-end-preserved-then-here-eq-CASE c).In-loop-end) (ne_eqb (get_or (here (goal.at.loop-end-preserved-then-here-eq-CASE c).In-loop-end) 0 0) 2 (λ e. if2.false (field.ensures ∙ e))) (eq-eqb (get_or (here (goal.at.loop-end-preserved-then-here-eq-CASE c).In-loop-end) 0 0) 3 (sym field.ensures ∙ if3.true)) in
    let p = rw (records-behind (words (goal.at.loop-end-preserved-then-here-eq-CASE c).In-loop-end) (at (goal.at.loop-end-preserved-then-here-eq-CASE c).In-loop-end)) at c.put_case-mark.ensures in
    going-puts (cases_shown text) loop.invariant (stands-now (goal.at.loop-end-preserved-then-here-eq-CASE c).In-loop-end) (case_shown text (here (goal.at.loop-end-preserved-then-here-eq-CASE c).In-loop-end) (rest (goal.at.loop-end-preserved-then-here-eq-CASE c).In-loop-end)) e p (search rules)

pub loop-end-smaller : goal.loop-end-smaller
loop-end-smaller c =
    let at-then1 = c in
    omega (arith, room (goal.at.loop-end-smaller c).In-loop-end)

pub loop-end-preserved : goal.loop-end-preserved
loop-end-preserved c =
    let loop = c.loop-end in
    let t = c in
    let text = c.args.text.now in
    let e = cases_other text (here (goal.at.loop-end-preserved c).In-loop-end) (rest (goal.at.loop-end-preserved c).In-loop-end) (ne_eqb (get_or (here (goal.at.loop-end-preserved c).In-loop-end) 0 0) 2 (λ e. c.if-here-eq-SUITE.false (c.field-here.ensures ∙ e)))
    (ne_eqb (get_or (here (goal.at.loop-end-preserved c).In-loop-end) 0 0) 3 (λ e. c.if-here-eq-CASE.false (c.field-here.ensures ∙ e))) in
    going-pass (cases_shown text) loop.invariant (stands-now (goal.at.loop-end-preserved c).In-loop-end) e

pub shape_of-out : goal.shape_of-out
shape_of-out c =
    let loop = c.loop-end in
    loop.invariant.same

pub returns : goal.returns
returns c =
    let loop = c.loop-end in
    let free = c.is_open in
    let more = c.stands_here in
    let text = c.args.text.now in
    going-stop (cases_shown text) loop.invariant free.result more.result (cases-over text) c.loop-end-test.false free.ensures more.ensures
