use mathlib.Core.Path.{refl}
use Rattle.starts.proofs.not_found.Goals as goal

pub returns : goal.returns
returns c = rw (c.no_moment.ensures, c.no_moment-2.ensures) refl
