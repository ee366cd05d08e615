use Prim.Native.Nat.{◌-◌, ◌<◌}
use mathlib.Core.Path.{sym}
use native.Mathlib.Omega.{arith}
use lib.Seq.{length-take-le}
use lib.ListN.{length}
use Rattle.explain_name.proofs.Showing.{goes_on, showing-start, showing_moves, showing-more, showing-stop}
use Rattle.explain_name.proofs.put_value.Goals as goal
use Rattle.explain_name.proofs.put_value.Goals.{In-loop-i}

-- there are bytes left
inside : (c : In-loop-i) →
    let args = c.args in
    c.loop-i.i < length args.s.now
inside c =
    let args = c.args in
    goes_on c.is_open.result c.loop-i.i (length args.s.now) c.loop-i-test.true

pub loop-i-init : goal.loop-i-init
loop-i-init c = showing-start _ _ _

pub slice_bounds-piece_of-count : goal.slice_bounds-piece_of-count
slice_bounds-piece_of-count c = omega (arith, c.loop-i.invariant.within)

pub slice_bounds-piece_of-start : goal.slice_bounds-piece_of-start
slice_bounds-piece_of-start c = omega (arith, c.loop-i.invariant.within)

pub slice_bounds-bytes-end : goal.slice_bounds-bytes-end
slice_bounds-bytes-end c = c.piece_of-p.ensures.fits

pub slice_bounds-put_escaped-end : goal.slice_bounds-put_escaped-end
slice_bounds-put_escaped-end c =
    sym (length-take-le c.piece_of-p.result.n c.piece_of-p.result.bytes c.piece_of-p.ensures.fits)

pub loop-i-preserved : goal.loop-i-preserved
loop-i-preserved c =
    let loop = c.loop-i in
    let at-then1 = c in
    let piece_of = c.piece_of-p in
    showing-more loop.invariant (inside (goal.at.loop-i-preserved c).In-loop-i) piece_of.result piece_of.ensures c.put_escaped-mark.ensures c.put_escaped-mark.auto.out

pub overflow_add-i : goal.overflow_add-i
overflow_add-i c = omega (arith, (loop-i-preserved c).within)

pub loop-i-smaller : goal.loop-i-smaller
loop-i-smaller c =
    let loop = c.loop-i in
    let at-then1 = c in
    let piece_of = c.piece_of-p in
    omega (arith, showing_moves loop.invariant (inside (goal.at.loop-i-smaller c).In-loop-i) piece_of.result piece_of.ensures, inside (goal.at.loop-i-smaller c).In-loop-i)

pub shape_of-out : goal.shape_of-out
shape_of-out c = c.loop-i.invariant.same

pub returns : goal.returns
returns c = showing-stop c.loop-i.invariant c.is_open.result c.is_open.ensures c.loop-i-test.false
