use mathlib.Core.Path.{refl}
use Rattle.merge_rows.proofs.has_text.Goals as goal

pub returns : goal.returns
returns c = rw c.has_bit.ensures refl
