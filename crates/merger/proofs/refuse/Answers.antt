use mathlib.Core.Path.{refl}
use Rattle.merger.proofs.refuse.Goals as goal

pub returns : goal.returns
returns c = rw c.refuse_late.ensures refl
