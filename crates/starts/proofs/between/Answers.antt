use mathlib.Core.Path.{refl}
use Rattle.starts.proofs.between.Goals as goal

pub returns : goal.returns
returns c = rw (c.seconds_between.ensures, c.nanos_between.ensures) refl
