use mathlib.Core.Path.{sym, ◌∙◌}
use mathlib.Core.Bool.{true, false}
use Rattle.calendar.proofs.Months.{month-none, month-past, month-february, month-other}
use Rattle.calendar.proofs.month_length.Goals as goal

pub returns-then-month-lt1 : goal.returns-then-month-lt1
returns-then-month-lt1 c = month-none _ _ c.if-month-lt1.true

pub returns-then-month-gt12 : goal.returns-then-month-gt12
returns-then-month-gt12 c = month-past _ _ c.if-month-gt12.true

pub returns-then-is_leap : goal.returns-then-is_leap
returns-then-is_leap c = month-february _ _ true (sym c.is_leap.ensures ∙ c.if-is_leap.true) c.if-month-eq2.true

pub returns-then-month-eq2 : goal.returns-then-month-eq2
returns-then-month-eq2 c = month-february _ _ false (sym c.is_leap.ensures ∙ c.if-is_leap.false) c.if-month-eq2.true

pub returns : goal.returns
returns c = let s = c.args in month-other s.year s.month c.if-month-lt1.false c.if-month-gt12.false c.if-month-eq2.false
