use Rattle.tree_merge.specs.of_tree_counts.declared.Counts.{Counts}
use Rattle.tree_merge.specs.of_tree_counts.Counts.{counted_from, with_suite}
use mathlib.Core.Path.{ap₂, ◌∙◌}
use Rattle.merge_head.proofs.sums_of.Goals as goal

pub returns : goal.returns
returns c = c.add_test_suite.ensures ∙ ap₂ (λ (x y : Counts). counted_from x (with_suite x y)) c.counts_in-own.ensures c.counts_in.ensures
