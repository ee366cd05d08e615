use mathlib.Core.Path.{refl}
use Rattle.start_ends.specs.inside.Ends.{with_start}
use Rattle.start_ends.proofs.with_start.Goals as goal

pub returns-in-Some : goal.returns-in-Some
unfolding with_start
returns-in-Some c = rw (c.in-Some.is, c.later.ensures, c.earlier.ensures) refl

pub returns-in-None : goal.returns-in-None
unfolding with_start
returns-in-None c = rw c.in-None.is refl
