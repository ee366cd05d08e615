use Rattle.area.proofs.Sifting.{Sifting}
use Rattle.utf8.specs.inside.Ascii.{ascii}
use Rattle.utf8.proofs.is_ascii.Given as goal

abbrev pub invariant-loop-b : goal.invariant-loop-b
invariant-loop-b l = Sifting ascii l.s l.odd l.b-index
