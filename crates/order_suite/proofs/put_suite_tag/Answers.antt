use Rattle.write_document.proofs.of_write_table.Writing.{then}
use Rattle.order_suite.proofs.put_suite_tag.Goals as goal

pub shape_of-events : goal.shape_of-events
shape_of-events c =
    let at-put-common = c in
    at-put-common.put_tag-opened.auto.events

pub returns : goal.returns
returns c =
    let at-put-common = c in
    let put-tag = at-put-common.put_tag-opened in
    let put_count = c.put_count-errors in
    let put-count2 = c.put_count in
    then (put-tag.ensures _) (then (at-put-common.put_common-common.ensures _) (then (put_count.ensures _) (put-count2.ensures _)))
