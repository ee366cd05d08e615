use Rattle.write_status.proofs.Events.{closed-items}
use Rattle.write_marks.proofs.of_write_table.Writing.{then, said}
use Rattle.write_run.proofs.put_run_children.Goals as goal

pub returns : goal.returns
returns c =
    let at-put-run-text = c in
    let args = at-put-run-text.args in
    let put-outputs = c.put_outputs-outputs in
    let put-tag = c.put_tag in
    λ at. said (then (at-put-run-text.put_run_text-traced.ensures at) (then (put-outputs.ensures at) (put-tag.ensures at))) (closed-items args.text.now args.r.now _)
