use Rattle.write_document.proofs.of_write_table.Writing.{then}
use Rattle.order_suite.proofs.put_common.Goals as goal

pub returns : goal.returns
returns c =
    let put-name = c.put_name-named in
    let put_count = c.put_count-tests in
    let put-count2 = c.put_count in
    λ ev. then (put-name.ensures ev) (then (put_count.ensures ev) (put-count2.ensures ev))
