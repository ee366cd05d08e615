use mathlib.Core.Bool.{◌||◌}
use Rattle.names.proofs.of_area.Sifting.{Sifting}
use Rattle.write_escape.specs.inside.Plain.{plain}
use Rattle.write_escape.proofs.is_plain.Given as goal

abbrev pub invariant-loop-b : goal.invariant-loop-b
invariant-loop-b l = Sifting plain l.s (l.amp || (l.lt || (l.gt || (l.apos || l.quot)))) l.b-index
