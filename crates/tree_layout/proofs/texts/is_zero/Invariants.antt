use Rattle.tree_shape.proofs.of_area.Sifting.{Sifting}
use Rattle.tree_order.specs.of_tree_report.Layout.{all_zero}
use Rattle.tree_layout.proofs.texts.is_zero.Given as goal

abbrev pub invariant-loop-b : goal.invariant-loop-b
invariant-loop-b l = Sifting all_zero l.s l.odd l.b-index
