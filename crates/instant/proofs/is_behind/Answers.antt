use mathlib.Core.Path.{refl}
use Rattle.instant.proofs.is_behind.Goals as goal

pub returns : goal.returns
returns c = rw c.is_leap.ensures refl
