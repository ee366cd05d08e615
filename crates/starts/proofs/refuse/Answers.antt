use mathlib.Core.Path.{refl}
use Rattle.starts.proofs.refuse.Goals as goal

pub returns : goal.returns
returns c = rw (c.not_found.ensures, c.refuse_late.ensures) refl
