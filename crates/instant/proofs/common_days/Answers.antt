use Rattle.instant.proofs.Months.{month-entry, month-over}
use Rattle.instant.proofs.common_days.Goals as goal

pub returns-then-month-gt13 : goal.returns-then-month-gt13
returns-then-month-gt13 c = month-over _ c.if-month-gt13.true

pub returns : goal.returns
returns c = month-entry _ c.if-month-gt13.false
