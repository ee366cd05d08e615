use Rattle.read_chains.proofs.of_area.Sifting.{Sifting}
use Rattle.read_plain.specs.inside.Plain.{unaltered}
use Rattle.read_plain.proofs.is_own.Given as goal

abbrev pub invariant-loop-b : goal.invariant-loop-b
invariant-loop-b l = Sifting unaltered l.key l.odd l.b-index
