use mathlib.Core.Path.{refl}
use lib.Ieee.{of_bits}
use Rattle.time_text.specs.Written.{float_sum}
use Rattle.time_text.proofs.float_sum.Goals as goal

pub returns : goal.returns
unfolding float_sum of_bits
returns c = refl
