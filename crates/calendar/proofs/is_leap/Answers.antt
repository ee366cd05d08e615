use mathlib.Core.Path.{refl}
use Rattle.calendar.specs.Calendar.{is_leap}
use Rattle.calendar.proofs.is_leap.Goals as goal

pub returns : goal.returns
unfolding is_leap
returns c = refl
