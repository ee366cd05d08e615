use Rattle.write_entries.proofs.of_write_table.Writing.{then}
use Rattle.order_case.proofs.put_opening.Goals as goal

pub returns : goal.returns
returns c =
    let put-tag = c.put_tag-opened in
    let put-name = c.put_name in
    then (put-tag.ensures _) (put-name.ensures _)
