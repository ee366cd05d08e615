use Rattle.order_case.proofs.of_order_report.Items.{report-items}
use Rattle.write_document.proofs.of_write_table.Writing.{then, said}
use Rattle.order_suite.proofs.put_order.Goals as goal

pub returns : goal.returns
returns c =
    let at-put-suite = c in
    let at-put-head = at-put-suite in
    let args = at-put-head.args in
    let put-tail = c.put_tail in
    said (then at-put-head.put_head-head.ensures (then at-put-suite.put_suite-suite.ensures (put-tail.ensures _))) (report-items args.o)
