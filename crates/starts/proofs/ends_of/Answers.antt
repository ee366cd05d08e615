use mathlib.Core.Path.{◌∙◌}
use Rattle.start_ends.proofs.of_days.Cycle.{table}
use Rattle.start_ends.specs.inside.Ends.{no_ends}
use Rattle.starts.proofs.Walking.{same_ends, by-days}
use Rattle.starts.proofs.ends_of.Goals as goal

pub returns : goal.returns
unfolding table
returns c = c.ends_in.ensures ∙ same_ends by-days no_ends _
