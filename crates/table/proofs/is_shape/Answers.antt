use mathlib.Core.Path.{refl}
use Rattle.table.specs.Table.{good_shape}
use Rattle.table.proofs.is_shape.Goals as goal

pub returns : goal.returns
unfolding good_shape
returns c =
    let is_Within = c.is_within in
    rw (is_Within.ensures, c.is_within-2.ensures) refl
