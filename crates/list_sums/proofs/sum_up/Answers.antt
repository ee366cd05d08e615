use Prim.Native.Nat.{ℕ, ◌+◌, ◌-◌, ◌≤◌}
use mathlib.Core.List.{List}
use mathlib.Core.Bool.{true}
use mathlib.Core.Path.{◌≡◌, sym, ◌∙◌}
use native.Mathlib.Omega.{arith}
use lib.ListN.{length, take, drop}
use Rattle.list_sums.specs.inside.Rows.{stands, records_in}
use Rattle.list_sums.proofs.Records.{stands-room}
use Rattle.list_sums.proofs.Sums.{summing_start, summing-end, summing-more, summing-done}
use Rattle.list_sums.proofs.sum_up.Goals as goal
use Rattle.list_sums.proofs.sum_up.Goals.{In-loop-end}

abbrev words : In-loop-end → List ℕ
words c =
    let args = c.args in
    args.words.now

abbrev at : In-loop-end → ℕ
at c = c.loop-end.at

-- the record at hand, and those behind it
abbrev here : In-loop-end → List ℕ
here c = take (at c + 32 - at c) (drop (at c) (words c))

abbrev rest : In-loop-end → List (List ℕ)
rest c = records_in (drop (at c + 32) (words c))

stands-now : (c : In-loop-end) → stands (take (length (words c) - at c) (drop (at c) (words c))) ≡ true
stands-now c = sym c.stands_here.ensures ∙ c.loop-end-test.true

room : (c : In-loop-end) → at c + 32 ≤ length (words c)
room c = stands-room (words c) (at c) (stands-now c)

pub loop-end-init : goal.loop-end-init
loop-end-init c = summing_start _

pub offset_bounds-words-at : goal.offset_bounds-words-at
offset_bounds-words-at c = omega (arith, c.loop-end.invariant.fits)

pub slice_bounds-stands_here-count : goal.slice_bounds-stands_here-count
slice_bounds-stands_here-count c = omega (arith, c.loop-end.invariant.fits)

pub slice_bounds-stands_here-start : goal.slice_bounds-stands_here-start
slice_bounds-stands_here-start c = omega (arith, c.loop-end.invariant.fits)

pub overflow_add-end : goal.overflow_add-end
overflow_add-end c = omega (arith, room (goal.at.overflow_add-end c).In-loop-end)

pub offset_bounds-words-at-in-loop-end : goal.offset_bounds-words-at-in-loop-end
offset_bounds-words-at-in-loop-end c = omega (arith, room (goal.at.offset_bounds-words-at-in-loop-end c).In-loop-end)

pub slice_bounds-r-end : goal.slice_bounds-r-end
slice_bounds-r-end c = omega (arith, room (goal.at.slice_bounds-r-end c).In-loop-end)

pub returns-then-ends_case : goal.returns-then-ends_case
returns-then-ends_case c =
    let loop = c.loop-end in
    let t = c in
    summing-end loop.invariant (stands-now (goal.at.returns-then-ends_case c).In-loop-end) (rw c.field.ensures at (sym c.ends_case.ensures ∙ c.if-ends_case.true))

pub with_record-s-requires : goal.with_record-s-requires
with_record-s-requires c =
    let loop = c.loop-end in
    let at-then1 = c in
    omega (arith, room (goal.at.with_record-s-requires c).In-loop-end, loop.invariant.few)

pub loop-end-smaller : goal.loop-end-smaller
loop-end-smaller c =
    let at-then1 = c in
    omega (arith, room (goal.at.loop-end-smaller c).In-loop-end)

pub loop-end-preserved : goal.loop-end-preserved
loop-end-preserved c =
    let loop = c.loop-end in
    let t = c in
    summing-more loop.invariant (stands-now (goal.at.loop-end-preserved c).In-loop-end) (rw c.field.ensures at (sym c.ends_case.ensures ∙ c.if-ends_case.false)) c.with_record-s.ensures

pub returns : goal.returns
returns c = summing-done c.loop-end.invariant (sym c.stands_here.ensures ∙ c.loop-end-test.false)
