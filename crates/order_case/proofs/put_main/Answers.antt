use Rattle.write_entries.proofs.of_write_table.Writing.{then}
use Rattle.order_case.proofs.put_main.Goals as goal

pub returns : goal.returns
returns c =
    let at-put-tag = c in
    let put-opening = at-put-tag.put_opening-opened in
    let put-tag2 = c.put_tag in
    then put-opening.ensures (then (at-put-tag.put_tag-main.ensures _) (put-tag2.ensures _))
