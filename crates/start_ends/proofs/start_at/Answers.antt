use mathlib.Core.Path.{refl}
use Rattle.start_ends.proofs.start_at.Goals as goal

pub returns : goal.returns
returns c = rw c.instant_by.ensures refl
