use Rattle.write_status.proofs.Events.{output-items}
use Rattle.write_marks.proofs.of_write_table.Writing.{then, said}
use Rattle.write_status.proofs.put_output.Goals as goal

pub returns : goal.returns
returns c =
    let put-tag = c.put_tag-opened in
    let put-text = c.put_text-inner in
    let put-tag2 = c.put_tag in
    λ at. said (then (put-tag.ensures at) (then (put-text.ensures at) (put-tag2.ensures at))) (output-items _ _)
