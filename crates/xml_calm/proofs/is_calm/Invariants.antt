use Rattle.xml_state.proofs.of_area.Sifting.{Sifting}
use Rattle.xml_calm.specs.inside.Calm.{mild_all}
use Rattle.xml_calm.proofs.is_calm.Given as goal

abbrev pub invariant-loop-b : goal.invariant-loop-b
invariant-loop-b l = Sifting (mild_all l.stop) l.part l.odd l.b-index
