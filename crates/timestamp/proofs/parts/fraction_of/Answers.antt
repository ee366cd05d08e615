use Prim.Native.Nat.{◌+◌}
use Rattle.timestamp.proofs.Fractions.{point-run, fraction-none, fraction-empty, fraction-long, fraction-small, fraction-right}
use Rattle.timestamp.specs.Timestamp.{digit_run}
use Rattle.names.proofs.of_area.Parts.{rest_part}
use mathlib.Core.Path.{ap, ◌∙◌}
use native.Mathlib.Omega.{arith}
use Rattle.timestamp.proofs.parts.fraction_of.Goals as goal

pub returns-then-t-ne46 : goal.returns-then-t-ne46
returns-then-t-ne46 c = fraction-none _ c.if-t-ne46.true

pub returns-then-n-lt1 : goal.returns-then-n-lt1
returns-then-n-lt1 c = let t = c.args.t.now in
    fraction-empty t c.if-t-ne46.false _ (c.digit_run-n.ensures ∙ ap digit_run (rest_part t 1)) c.if-n-lt1.true

pub overflow_add-end : goal.overflow_add-end
overflow_add-end c = let t = c.args.t.now in
    omega (arith, c.digit_run-n.ensures ∙ ap digit_run (rest_part t 1), point-run t c.if-t-ne46.false)

pub slice_bounds-billionths_of-end : goal.slice_bounds-billionths_of-end
slice_bounds-billionths_of-end c = let t = c.args.t.now in
    omega (arith, c.digit_run-n.ensures ∙ ap digit_run (rest_part t 1), point-run t c.if-t-ne46.false)

pub returns-in_err-nanos : goal.returns-in_err-nanos
returns-in_err-nanos c =
    let if1 = c.if-t-ne46 in
    let digit-run = c.digit_run-n in
    let t = c.args.t.now in c.from_residual.ensures ∙ fraction-long t if1.false _
    (digit-run.ensures ∙ ap digit_run (rest_part t 1)) (digit-run.result + 1) (omega arith) c.in_err-nanos.ensures

pub overflow_cast-result : goal.overflow_cast-result
overflow_cast-result c =
    let if1 = c.if-t-ne46 in
    let digit-run = c.digit_run-n in
    let t = c.args.t.now in let k = fraction-small t if1.false _
    (digit-run.ensures ∙ ap digit_run (rest_part t 1)) (digit-run.result + 1) (omega arith) _ c.in_ok-nanos.ensures in omega arith

pub returns : goal.returns
returns c =
    let if1 = c.if-t-ne46 in
    let digit-run = c.digit_run-n in
    let if2 = c.if-n-lt1 in
    let t = c.args.t.now in fraction-right t if1.false _
    (digit-run.ensures ∙ ap digit_run (rest_part t 1)) (digit-run.result + 1) (omega arith) _ c.in_ok-nanos.ensures if2.false
