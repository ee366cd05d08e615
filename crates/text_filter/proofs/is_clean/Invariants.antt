use Rattle.copying.proofs.of_area.Sifting.{Sifting}
use Rattle.text_filter.specs.Filter.{unfiltered}
use Rattle.text_filter.proofs.is_clean.Given as goal

abbrev pub invariant-loop-b : goal.invariant-loop-b
invariant-loop-b l = Sifting unfiltered l.s l.odd l.b-index
