use Rattle.write_status.proofs.Events.{outputs-items}
use Rattle.write_marks.proofs.of_write_table.Writing.{then, said}
use Rattle.write_status.proofs.put_outputs.Goals as goal

pub returns : goal.returns
returns c =
    let args = c.args in
    let put-optional = c.put_optional-out in
    let put-optional2 = c.put_optional in
    λ at. said (then (put-optional.ensures at) (put-optional2.ensures at)) (outputs-items args.text.now args.r.now)
