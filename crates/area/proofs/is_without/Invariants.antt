use Rattle.area.proofs.Blocks.{without}
use Rattle.area.proofs.Sifting.{Sifting}
use Rattle.area.proofs.is_without.Given as goal

abbrev pub invariant-loop-b : goal.invariant-loop-b
invariant-loop-b l = Sifting (without l.byte) l.s l.found l.b-index
