-- `proofs/Spelling.antt` says how the text's parts are put.
use Prim.Native.Nat.{◌+◌}
use mathlib.Core.Path.{ap, ◌∙◌}
use native.Mathlib.Omega.{arith}
use lib.ListN.{length, set, length-set}
use Rattle.time.specs.of_area.Area.{stored_answer}
use Rattle.time.proofs.of_area.Laying.{Laying, laying-put, laying-full, length-laid}
use Rattle.time.specs.of_digits.Digits.{last_digits_of}
use Rattle.time_text.specs.Written.{written_time}
use Rattle.time_text.proofs.Spelling.{seconds-full, seconds-put, last-full, last-put, last_fits}
use Rattle.time.specs.of_refusal.declared.Cause.TheVariants as cause
use Rattle.time_text.proofs.write_time.Goals as goal
use Rattle.time_text.proofs.write_time.Goals.{Else-out-point}

-- past the test: the seconds stand in the area, and the point has its place
laying : (c : Else-out-point) → Laying c.args.out.now (set c.write_decimal.new.out c.in_ok-point.point 0x2E) (c.in_ok-point.point + 1) (written_time c.args.secs c.args.nanos) (last_digits_of 3 c.thousandths-ms.result)
laying c =
    laying-put (seconds-put c.args.out.now _ _ c.thousandths-ms.ensures _ c.write_decimal.ensures.out_after _ c.in_ok-point.ensures.result_value)
    c.if-out-point.false

pub returns-in_err-point : goal.returns-in_err-point
returns-in_err-point c =
    let both = seconds-full c.args.out.now _ _ c.thousandths-ms.ensures _ c.write_decimal.ensures.out_after c.in_err-point.ensures.result_value in
    record { result_value = ap (stored_answer cause.OutputFull) c.from_residual.ensures ∙ both.0; out_after = both.1 }

pub returns-then-out-point : goal.returns-then-out-point
returns-then-out-point c =
    let both = laying-full cause.OutputFull
    (seconds-put c.args.out.now _ _ c.thousandths-ms.ensures _ c.write_decimal.ensures.out_after _ c.in_ok-point.ensures.result_value) c.if-out-point.true in record { result_value = both.0; out_after = both.1 }

pub slice_bounds-write_digits-count : goal.slice_bounds-write_digits-count
slice_bounds-write_digits-count c = simp length-set (omega arith)

pub slice_bounds-write_digits-start : goal.slice_bounds-write_digits-start
slice_bounds-write_digits-start c = simp length-set (omega arith)

pub returns-in_err-n : goal.returns-in_err-n
returns-in_err-n c =
    let both = last-full _ (laying (goal.at.returns-in_err-n c).Else-out-point) _ c.write_digits.ensures.out_after c.in_err-n.ensures.result_value in
    record { result_value = ap (stored_answer cause.OutputFull) c.from_residual-in_err-n.ensures ∙ both.0; out_after = both.1 }

pub overflow_add-result : goal.overflow_add-result
overflow_add-result c =
    let h = last_fits _ (laying (goal.at.overflow_add-result c).Else-out-point) _ c.write_digits.ensures.out_after _ c.in_ok-n.ensures.result_value in
    omega (arith, h, c.well_formed.0.0)

pub returns : goal.returns
returns c =
    let both = last-put _ (laying (goal.at.returns c).Else-out-point) _ c.write_digits.ensures.out_after _ c.in_ok-n.ensures.result_value in record { result_value = both.0; out_after = both.1 }

pub shape_of-out : goal.shape_of-out
shape_of-out c =
    ap length (returns c).out_after ∙ length-laid c.args.out.now (written_time c.args.secs c.args.nanos)
