use Rattle.write_walk.specs.of_write_items.inside.Case.{inside_items}
use Rattle.write_marks.proofs.of_write_table.Writing.{then}
use Rattle.write_case.proofs.put_inside.Goals as goal

pub returns : goal.returns
unfolding inside_items
returns c =
    let put-properties = c.put_properties-properties in
    let put-elements = c.put_elements in
    then put-properties.ensures put-elements.ensures
