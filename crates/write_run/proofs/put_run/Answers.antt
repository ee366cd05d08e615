use Rattle.write_status.proofs.Events.{run-items}
use Rattle.write_marks.proofs.of_write_table.Writing.{then, said}
use Rattle.write_run.proofs.put_run.Goals as goal

pub returns : goal.returns
returns c =
    let at-run-tag = c in
    let at_field = at-run-tag in
    let args = at_field.args in
    let put-element = c.put_element-opened in
    let put-run-children = c.put_run_children in
    said (then put-element.ensures (put-run-children.ensures _)) (run-items args.text.now args.r.now args.flaky _ (rw at_field.field.ensures at at-run-tag.run_tag-code.ensures))
