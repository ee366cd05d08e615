use Rattle.write_walk.specs.of_write_items.inside.Case.{closing_items}
use Rattle.write_marks.proofs.of_write_table.Writing.{then}
use Rattle.write_elements.proofs.put_closing.Goals as goal

pub returns : goal.returns
unfolding closing_items
returns c =
    let put-outputs = c.put_outputs-outputs in
    let put-tag = c.put_tag in
    λ at. then (put-outputs.ensures at) (put-tag.ensures at)
