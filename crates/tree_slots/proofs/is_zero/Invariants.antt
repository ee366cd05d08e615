use Rattle.tree_report.proofs.of_area.Sifting.{Sifting}
use Rattle.tree_report.specs.Layout.{all_zero}
use Rattle.tree_slots.proofs.is_zero.Given as goal

abbrev pub invariant-loop-w : goal.invariant-loop-w
invariant-loop-w l = Sifting all_zero l.words l.odd l.w-index
