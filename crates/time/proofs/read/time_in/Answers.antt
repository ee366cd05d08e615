use mathlib.Core.Path.{◌∙◌}
use native.Mathlib.Omega.{arith}
use Rattle.fraction.proofs.Fractions.{not-fraction}
use Rattle.time.proofs.Times.{no_digit, bad-whole, bad-fraction, formed-not, seconds-small, nanos-small, formed-good}
use Rattle.time.proofs.read.time_in.Goals as goal

pub returns-then-is_empty : goal.returns-then-is_empty
returns-then-is_empty c = formed-not _ _ (no_digit _ _ (rw (c.is_empty.ensures, c.is_empty-2.ensures) at c.if-is_empty.true))

pub returns-in_err-seconds : goal.returns-in_err-seconds
returns-in_err-seconds c = c.from_residual.ensures ∙ formed-not _ _ (bad-whole _ _ c.in_err-seconds.ensures)

pub returns-in_err-nanos : goal.returns-in_err-nanos
returns-in_err-nanos c = c.from_residual-in_err-nanos.ensures ∙ formed-not _ _ (bad-fraction _ _ (not-fraction c.args.digits.now c.in_err-nanos.ensures))

pub overflow_cast-result : goal.overflow_cast-result
overflow_cast-result c = let k = seconds-small c.args.whole.now c.args.digits.now _ _ c.in_ok-seconds.ensures c.in_ok-nanos.ensures in omega arith

pub overflow_cast-result-2 : goal.overflow_cast-result-2
overflow_cast-result-2 c = let k = nanos-small c.args.whole.now c.args.digits.now _ _ c.in_ok-seconds.ensures c.in_ok-nanos.ensures in omega arith

pub returns : goal.returns
returns c =
    formed-good c.args.whole.now c.args.digits.now _ _ c.in_ok-seconds.ensures c.in_ok-nanos.ensures
    (rw (c.is_empty.ensures, c.is_empty-2.ensures) at c.if-is_empty.false)
