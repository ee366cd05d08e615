use Rattle.utf8_chars.proofs.of_area.Sifting.{Sifting}
use Rattle.text.specs.inside.Plain.{plain}
use Rattle.text.proofs.decode.is_plain.Given as goal

abbrev pub invariant-loop-b : goal.invariant-loop-b
invariant-loop-b l = Sifting plain l.s l.odd l.b-index
