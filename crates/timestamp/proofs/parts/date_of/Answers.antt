use mathlib.Core.Path.{◌∙◌}
use native.Mathlib.Omega.{arith}
use Rattle.clock.proofs.of_fixed.Numerals.{field-most}
use Rattle.clock.specs.of_fixed.Fields.{part}
use Rattle.fraction.proofs.of_digits.Numbers.{not-number}
use Rattle.timestamp.proofs.Leaves.{date-none, date-wrong, date_right}
use Rattle.timestamp.proofs.parts.date_of.Goals as goal

pub returns-in_err-y : goal.returns-in_err-y
returns-in_err-y c = c.from_residual.ensures ∙ date-none c.args.s.now 0 (not-number _ _ _ c.in_err-y.ensures)

pub returns-in_err-m : goal.returns-in_err-m
returns-in_err-m c = c.from_residual-in_err-m.ensures ∙ date-none c.args.s.now 2 (not-number _ _ _ c.in_err-m.ensures)

pub returns-in_err-d : goal.returns-in_err-d
returns-in_err-d c = c.from_residual-in_err-d.ensures ∙ date-none c.args.s.now 4 (not-number _ _ _ c.in_err-d.ensures)

pub overflow_cast-year : goal.overflow_cast-year
overflow_cast-year c = let h = field-most 10 9999 (part 0 4 c.args.s.now) _ c.in_ok-y.ensures in omega arith

pub overflow_cast-month : goal.overflow_cast-month
overflow_cast-month c = let h = field-most 10 12 (part 5 2 c.args.s.now) _ c.in_ok-m.ensures in omega arith

pub overflow_cast-day : goal.overflow_cast-day
overflow_cast-day c = let h = field-most 10 31 (part 8 2 c.args.s.now) _ c.in_ok-d.ensures in omega arith

pub returns-then-marks-month : goal.returns-then-marks-month
returns-then-marks-month c = date_right _ _ _ _ c.in_ok-y.ensures c.in_ok-m.ensures c.in_ok-d.ensures _ c.month_length.ensures c.if-marks-month.true

pub returns : goal.returns
returns c = date-wrong _ _ _ _ c.in_ok-y.ensures c.in_ok-m.ensures c.in_ok-d.ensures _ c.month_length.ensures c.if-marks-month.false
