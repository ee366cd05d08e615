use Prim.Native.Nat.{ℕ, ◌+◌, ◌-◌, ◌≤◌}
use mathlib.Core.List.{List}
use mathlib.Core.Bool.{true}
use mathlib.Core.Path.{◌≡◌, sym, ◌∙◌}
use native.Mathlib.Omega.{arith}
use borrow.Author.Rules.{rules}
use lib.ListN.{length, take, drop}
use Rattle.list_status.specs.of_list_text.Listing.{run_text}
use Rattle.list_status.specs.of_list_sums.inside.Rows.{stands, records_in}
use Rattle.list_status.specs.of_list_sums.inside.Summed.{run_listed}
use Rattle.list_case.specs.inside.Shown.{runs_shown}
use Rattle.list_status.proofs.of_list_sums.Records.{stands-room}
use Rattle.list_case.proofs.Going.{goes_on, going_start, going-stop, going_end, going-pass, going-puts}
use Rattle.list_case.proofs.Unrolling.{runs-over, runs-end, runs-run, runs_other}
use Rattle.list_case.proofs.put_runs.Goals as goal
use Rattle.list_case.proofs.put_runs.Goals.{In-loop-end}

abbrev words : In-loop-end → List ℕ
words c =
    let args = c.args in
    args.words.now

abbrev at : In-loop-end → ℕ
at c =
    let loop = c.loop-end in
    loop.at

-- the record at hand, and those behind it
abbrev here : In-loop-end → List ℕ
here c = take (at c + 32 - at c) (drop (at c) (words c))

abbrev rest : In-loop-end → List (List ℕ)
rest c = records_in (drop (at c + 32) (words c))

stands-now : (c : In-loop-end) → stands (take (length (words c) - at c) (drop (at c) (words c))) ≡ true
stands-now c = goes_on c.is_open.result c.stands_here.result c.loop-end-test.true c.stands_here.ensures

room : (c : In-loop-end) → at c + 32 ≤ length (words c)
room c = stands-room (words c) (at c) (stands-now c)

pub loop-end-init : goal.loop-end-init
loop-end-init c = going_start runs_shown _ _ _

pub offset_bounds-words-at : goal.offset_bounds-words-at
offset_bounds-words-at c = omega (arith, c.loop-end.invariant.fits)

pub slice_bounds-stands_here-count : goal.slice_bounds-stands_here-count
slice_bounds-stands_here-count c = omega (arith, c.loop-end.invariant.fits)

pub slice_bounds-stands_here-start : goal.slice_bounds-stands_here-start
slice_bounds-stands_here-start c = omega (arith, c.loop-end.invariant.fits)

pub overflow_add-end : goal.overflow_add-end
overflow_add-end c = omega (arith, room (goal.at.overflow_add-end c).In-loop-end)

pub offset_bounds-words-at-in-loop-end : goal.offset_bounds-words-at-in-loop-end
offset_bounds-words-at-in-loop-end c = omega (arith, room (goal.at.offset_bounds-words-at-in-loop-end c).In-loop-end)

pub slice_bounds-r-end : goal.slice_bounds-r-end
slice_bounds-r-end c = omega (arith, room (goal.at.slice_bounds-r-end c).In-loop-end)

pub shape_of-out-then-ends_case : goal.shape_of-out-then-ends_case
shape_of-out-then-ends_case c =
    let loop = c.loop-end in
    loop.invariant.same

pub returns-then-ends_case : goal.returns-then-ends_case
returns-then-ends_case c =
    let loop = c.loop-end in
    let t = c in
    going_end runs_shown loop.invariant (stands-now (goal.at.returns-then-ends_case c).In-loop-end) (runs-end (here (goal.at.returns-then-ends_case c).In-loop-end) (rest (goal.at.returns-then-ends_case c).In-loop-end) (rw c.field-here.ensures at (sym c.ends_case.ensures ∙ c.if-ends_case.true)))

pub loop-end-smaller-then-is_run : goal.loop-end-smaller-then-is_run
loop-end-smaller-then-is_run c =
    let at-then1 = c in
    omega (arith, room (goal.at.loop-end-smaller-then-is_run c).In-loop-end)

pub loop-end-preserved-then-is_run : goal.loop-end-preserved-then-is_run
loop-end-preserved-then-is_run c =
    let loop = c.loop-end in
    let field = c.field-here in
    let ends-case = c.ends_case in
    let if2 = c.if-ends_case in
    let is-run = c.is_run in
    let if3 = c.if-is_run in
    let t = c in
    let e = runs-run (here (goal.at.loop-end-preserved-then-is_run c).In-loop-end) (rest (goal.at.loop-end-preserved-then-is_run c).In-loop-end) (rw field.ensures at (sym ends-case.ensures ∙ if2.false)) (rw field.ensures at (sym is-run.ensures ∙ if3.true)) in
    going-puts runs_shown loop.invariant (stands-now (goal.at.loop-end-preserved-then-is_run c).In-loop-end) (run_text (run_listed (here (goal.at.loop-end-preserved-then-is_run c).In-loop-end))) e c.put_run-mark.ensures (search rules)

pub loop-end-smaller : goal.loop-end-smaller
loop-end-smaller c =
    let at-then1 = c in
    omega (arith, room (goal.at.loop-end-smaller c).In-loop-end)

pub loop-end-preserved : goal.loop-end-preserved
loop-end-preserved c =
    let loop = c.loop-end in
    let field = c.field-here in
    let t = c in
    let e = runs_other (here (goal.at.loop-end-preserved c).In-loop-end) (rest (goal.at.loop-end-preserved c).In-loop-end) (rw field.ensures at (sym c.ends_case.ensures ∙ c.if-ends_case.false))
    (rw field.ensures at (sym c.is_run.ensures ∙ c.if-is_run.false)) in
    going-pass runs_shown loop.invariant (stands-now (goal.at.loop-end-preserved c).In-loop-end) e

pub shape_of-out : goal.shape_of-out
shape_of-out c =
    let loop = c.loop-end in
    loop.invariant.same

pub returns : goal.returns
returns c =
    let loop = c.loop-end in
    let free = c.is_open in
    let more = c.stands_here in
    going-stop runs_shown loop.invariant free.result more.result runs-over c.loop-end-test.false free.ensures more.ensures
