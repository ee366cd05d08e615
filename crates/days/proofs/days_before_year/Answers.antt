use mathlib.Core.Path.{◌∙◌}
use Rattle.days.proofs.Cycle.{table, by-table}
use Rattle.days.proofs.days_before_year.Goals as goal

pub returns : goal.returns
unfolding table
returns c = c.days_by.ensures.value ∙ by-table _
