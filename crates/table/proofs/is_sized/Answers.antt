use mathlib.Core.Path.{refl}
use Rattle.table.specs.Table.{good_sizes}
use Rattle.table.proofs.is_sized.Goals as goal

pub returns : goal.returns
unfolding good_sizes
returns c = refl
