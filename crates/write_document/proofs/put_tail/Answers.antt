use Rattle.write_marks.proofs.of_write_table.Writing.{then}
use Rattle.write_document.proofs.put_tail.Goals as goal

pub returns : goal.returns
returns c =
    let put-tag = c.put_tag-closed in
    let put-bare = c.put_bare-ended in
    let put-bare2 = c.put_bare in
    λ at. then (put-tag.ensures at) (then (put-bare.ensures at) (put-bare2.ensures at))
