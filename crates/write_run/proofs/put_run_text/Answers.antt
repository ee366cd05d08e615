use Rattle.write_status.proofs.Events.{traced_items}
use Rattle.write_marks.proofs.of_write_table.Writing.{then, said}
use Rattle.write_run.proofs.put_run_text.Goals as goal

pub returns : goal.returns
returns c =
    let args = c.args in
    let put-description = c.put_description-described in
    let put-optional = c.put_optional in
    λ at. said (then (put-description.ensures at) (put-optional.ensures at)) (traced_items args.text.now args.r.now)
