use Prim.Native.Nat.{ℕ, ◌+◌, ◌-◌, ◌≤◌}
use mathlib.Core.List.{List}
use mathlib.Core.Bool.{true}
use mathlib.Core.Path.{◌≡◌, sym, ◌∙◌}
use native.Mathlib.Omega.{arith}
use lib.ListN.{length, take, drop}
use Rattle.list_sums.specs.inside.Rows.{stands}
use Rattle.list_sums.proofs.Records.{stands-room}
use Rattle.starts.proofs.Walking.{going_start, going_more, going_done}
use Rattle.starts.proofs.ends_in.Goals as goal
use Rattle.starts.proofs.ends_in.Goals.{In-loop-end}

abbrev words : In-loop-end → List ℕ
words c =
    let args = c.args in
    args.words.now

abbrev at : In-loop-end → ℕ
at c = c.loop-end.at

stands-now : (c : In-loop-end) → stands (take (length (words c) - at c) (drop (at c) (words c))) ≡ true
stands-now c = sym c.stands_here.ensures ∙ c.loop-end-test.true

room : (c : In-loop-end) → at c + 32 ≤ length (words c)
room c = stands-room (words c) (at c) (stands-now c)

pub loop-end-init : goal.loop-end-init
loop-end-init c = going_start _ _ _ c.no_ends-e.ensures

pub offset_bounds-words-at : goal.offset_bounds-words-at
offset_bounds-words-at c = omega (arith, c.loop-end.invariant.fits)

pub slice_bounds-stands_here-count : goal.slice_bounds-stands_here-count
slice_bounds-stands_here-count c = omega (arith, c.loop-end.invariant.fits)

pub slice_bounds-stands_here-start : goal.slice_bounds-stands_here-start
slice_bounds-stands_here-start c = omega (arith, c.loop-end.invariant.fits)

pub overflow_add-end : goal.overflow_add-end
overflow_add-end c = omega (arith, room (goal.at.overflow_add-end c).In-loop-end)

pub offset_bounds-words-at-in-loop-end : goal.offset_bounds-words-at-in-loop-end
offset_bounds-words-at-in-loop-end c = omega (arith, room (goal.at.offset_bounds-words-at-in-loop-end c).In-loop-end)

pub slice_bounds-with_record-end : goal.slice_bounds-with_record-end
slice_bounds-with_record-end c = omega (arith, room (goal.at.slice_bounds-with_record-end c).In-loop-end)

pub loop-end-smaller : goal.loop-end-smaller
loop-end-smaller c =
    let at-then1 = c in
    omega (arith, room (goal.at.loop-end-smaller c).In-loop-end)

pub loop-end-preserved : goal.loop-end-preserved
loop-end-preserved c =
    let loop = c.loop-end in
    let t = c in
    going_more loop.invariant (stands-now (goal.at.loop-end-preserved c).In-loop-end) c.with_record-e.ensures

pub returns : goal.returns
returns c = going_done c.loop-end.invariant (sym c.stands_here.ensures ∙ c.loop-end-test.false)
