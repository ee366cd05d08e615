use mathlib.Core.Path.{ap, ◌∙◌}
use Rattle.tree_put.specs.of_tree_record.Record.{marked}
use Rattle.tree_values.proofs.put_time.Goals as goal

pub returns : goal.returns
returns c =
    let put-pair = c.put_pair in
    c.put_bit.ensures ∙ ap (marked 4) put-pair.ensures
