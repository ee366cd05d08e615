use lib.ListN.{drop}
use Rattle.copying.proofs.of_area.Laying.{Laying}
use Rattle.escape.specs.Escape.{escaped}
use Rattle.escape.proofs.escape_bytes.Given as goal

abbrev pub invariant-loop-b : goal.invariant-loop-b
invariant-loop-b l = Laying l.initial.out l.out l.k (escaped l.s) (escaped (drop l.b-index l.s))
