use Rattle.merge_head.specs.inside.Head.{is_second}
use mathlib.Core.Path.{refl}
use Rattle.merge_head.proofs.is_second.Goals as goal

pub returns : goal.returns
unfolding is_second
returns c = rw (c.has_bit.ensures, c.has_bit-2.ensures, c.is_earlier.ensures) refl
