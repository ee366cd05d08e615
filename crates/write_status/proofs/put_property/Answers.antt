use Rattle.write_status.proofs.Events.{property-items}
use Rattle.write_marks.proofs.of_write_table.Writing.{said}
use Rattle.write_status.proofs.put_property.Goals as goal

pub returns : goal.returns
returns c =
    let args = c.args in
    let put-element = c.put_element in
    said put-element.ensures (property-items args.text.now args.r.now)
