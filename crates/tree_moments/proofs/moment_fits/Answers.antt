use mathlib.Core.Path.{refl}
use Rattle.tree_moments.specs.inside.Fitting.{moment_fits}
use Rattle.tree_moments.proofs.moment_fits.Goals as goal

pub returns : goal.returns
unfolding moment_fits
returns c = refl
