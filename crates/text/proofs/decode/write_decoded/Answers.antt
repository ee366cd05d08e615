use mathlib.Core.Path.{ap, ◌∙◌}
use native.Mathlib.Omega.{arith}
use Rattle.utf8_chars.proofs.of_area.Laying.{laying-start, laying_on, laying-done}
use Rattle.utf8_chars.specs.of_area.Area.{stored_answer}
use Rattle.text.proofs.Writing.{writing_more, writing-full, writing_moves, run_more, run-full}
use Rattle.text.proofs.Pieces.{piece-end}
use Rattle.utf8_chars.specs.of_refusal.declared.Cause.TheVariants as cause
use Rattle.text.proofs.decode.write_decoded.Goals as goal

pub loop-i-init : goal.loop-i-init
loop-i-init c = record { within = omega arith; laying = laying-start _ _ }

pub put_run-requires : goal.put_run-requires
put_run-requires c = c.loop-i.invariant.laying.fits

pub returns-in_err-m : goal.returns-in_err-m
returns-in_err-m c =
    let e = c.in_err-m.ensures in
    let both = run-full c.loop-i.invariant _ e.out_after e.result_value in
    record { result_value = ap (stored_answer cause.TextFull) c.from_residual.ensures ∙ both.0; out_after = both.1 }

pub overflow_add-k : goal.overflow_add-k
overflow_add-k c =
    let e = c.in_ok-m.ensures in
    let w = run_more c.loop-i.invariant _ e.out_after _ e.result_value in
    omega (arith, w.laying.fits, w.laying.same, c.well_formed)

pub overflow_add-i : goal.overflow_add-i
overflow_add-i c =
    let e = c.in_ok-m.ensures in
    omega (arith, (run_more c.loop-i.invariant _ e.out_after _ e.result_value).within, c.well_formed)

pub slice_bounds-piece_of-count : goal.slice_bounds-piece_of-count
slice_bounds-piece_of-count c = let e = c.in_ok-m.ensures in omega (arith, (run_more c.loop-i.invariant _ e.out_after _ e.result_value).within)

pub slice_bounds-piece_of-start : goal.slice_bounds-piece_of-start
slice_bounds-piece_of-start c = let e = c.in_ok-m.ensures in omega (arith, (run_more c.loop-i.invariant _ e.out_after _ e.result_value).within)

pub slice_bounds-piece_of-end : goal.slice_bounds-piece_of-end
slice_bounds-piece_of-end c = let e = c.in_ok-m.ensures in omega (arith, (run_more c.loop-i.invariant _ e.out_after _ e.result_value).within)

pub put_piece-requires : goal.put_piece-requires
put_piece-requires c =
    let e = c.in_ok-m.ensures in
    record { k_in_bounds = (run_more c.loop-i.invariant _ e.out_after _ e.result_value).laying.fits; n_in_bounds = c.piece_of-p.ensures.fits }

pub returns-in_err-n : goal.returns-in_err-n
returns-in_err-n c =
    let e = c.in_ok-m.ensures in
    let q = c.in_err-n.ensures in
    let both = writing-full (run_more c.loop-i.invariant _ e.out_after _ e.result_value) _ c.piece_of-p.ensures _ q.out_after q.result_value in
    record { result_value = ap (stored_answer cause.TextFull) c.from_residual-in_err-n.ensures ∙ both.0; out_after = both.1 }

pub overflow_add-k-in-loop-i : goal.overflow_add-k-in-loop-i
overflow_add-k-in-loop-i c =
    let e = c.in_ok-m.ensures in
    let q = c.in_ok-n.ensures in
    let v = writing_more (run_more c.loop-i.invariant _ e.out_after _ e.result_value) _ c.piece_of-p.ensures _ q.out_after _ q.result_value in
    omega (arith, v.laying.fits, v.laying.same, c.well_formed)

pub overflow_add-i-in-loop-i : goal.overflow_add-i-in-loop-i
overflow_add-i-in-loop-i c =
    let e = c.in_ok-m.ensures in
    let q = c.in_ok-n.ensures in
    omega (arith, (writing_more (run_more c.loop-i.invariant _ e.out_after _ e.result_value) _ c.piece_of-p.ensures _ q.out_after _ q.result_value).within, c.well_formed)

pub loop-i-smaller : goal.loop-i-smaller
loop-i-smaller c =
    let t = c.loop-i-test.true in
    let e = c.in_ok-m.ensures in
    let q = c.in_ok-n.ensures in
    let w = run_more c.loop-i.invariant _ e.out_after _ e.result_value in
    omega (arith, (writing_more w _ c.piece_of-p.ensures _ q.out_after _ q.result_value).within, writing_moves w _ c.piece_of-p.ensures c.loop-i.i (omega arith) t, t)

pub loop-i-preserved : goal.loop-i-preserved
loop-i-preserved c =
    let e = c.in_ok-m.ensures in
    let q = c.in_ok-n.ensures in
    writing_more (run_more c.loop-i.invariant _ e.out_after _ e.result_value) _ c.piece_of-p.ensures _ q.out_after _ q.result_value

pub returns : goal.returns
returns c =
    let l = c.loop-i in
    let both = laying-done cause.TextFull (laying_on l.invariant.laying (piece-end c.args.clean c.args.s.now l.i c.loop-i-test.false)) in
    record { result_value = both.0; out_after = both.1 }
