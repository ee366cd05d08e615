use Rattle.copying.proofs.of_area.Sifting.{Sifting}
use Rattle.escape.specs.inside.Plain.{plain}
use Rattle.escape.proofs.is_plain.Given as goal

abbrev pub invariant-loop-b : goal.invariant-loop-b
invariant-loop-b l = Sifting plain l.s l.odd l.b-index
