use mathlib.Core.Path.{◌∙◌}
use native.Mathlib.Omega.{arith}
use Rattle.fixed.specs.Fields.{part}
use Rattle.fixed.proofs.of_digits.Numbers.{not-number}
use Rattle.fixed.proofs.Numerals.{field-most}
use Rattle.clock.proofs.Clocks.{clock-none, clock-wrong, clock-right}
use Rattle.clock.proofs.clock_of.Goals as goal

pub returns-in_err-hour : goal.returns-in_err-hour
returns-in_err-hour c = c.from_residual.ensures ∙ clock-none c.args.s.now 1 (not-number _ _ _ c.in_err-hour.ensures)

pub returns-in_err-minute : goal.returns-in_err-minute
returns-in_err-minute c = c.from_residual-in_err-minute.ensures ∙ clock-none c.args.s.now 3 (not-number _ _ _ c.in_err-minute.ensures)

pub returns-in_err-second : goal.returns-in_err-second
returns-in_err-second c = c.from_residual-in_err-second.ensures ∙ clock-none c.args.s.now 5 (not-number _ _ _ c.in_err-second.ensures)

pub overflow_cast-result : goal.overflow_cast-result
overflow_cast-result c = let h = field-most 10 23 (part 11 2 c.args.s.now) _ c.in_ok-hour.ensures in omega arith

pub overflow_cast-result-then-letter-s : goal.overflow_cast-result-then-letter-s
overflow_cast-result-then-letter-s c = let h = field-most 10 59 (part 14 2 c.args.s.now) _ c.in_ok-minute.ensures in omega arith

pub overflow_cast-result-then-letter-s-2 : goal.overflow_cast-result-then-letter-s-2
overflow_cast-result-then-letter-s-2 c = let h = field-most 10 59 (part 17 2 c.args.s.now) _ c.in_ok-second.ensures in omega arith

pub returns-then-letter-s : goal.returns-then-letter-s
returns-then-letter-s c = clock-right _ _ _ _ c.in_ok-hour.ensures c.in_ok-minute.ensures c.in_ok-second.ensures c.if-letter-s.true

pub returns : goal.returns
returns c = clock-wrong _ _ _ _ c.in_ok-hour.ensures c.in_ok-minute.ensures c.in_ok-second.ensures c.if-letter-s.false
