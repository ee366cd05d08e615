use lib.ListN.{drop}
use Rattle.copying.proofs.of_area.Laying.{Laying}
use Rattle.text_filter.specs.Filter.{filtered}
use Rattle.text_filter.proofs.store_each.Given as goal

abbrev pub invariant-loop-b : goal.invariant-loop-b
invariant-loop-b l = Laying l.initial.out l.out l.k (filtered l.s) (filtered (drop l.b-index l.s))
