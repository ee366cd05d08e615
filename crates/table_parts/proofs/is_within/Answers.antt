use mathlib.Core.Path.{refl}
use Rattle.table_parts.proofs.is_within.Goals as goal

pub returns : goal.returns
returns c = rw (c.wide.ensures, c.wide-2.ensures) refl
