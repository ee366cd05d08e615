use Rattle.list_text.specs.of_tree_report.Fields.{counts}
use Rattle.list_text.proofs.Putting.{more, other}
use Rattle.list_values.proofs.Joining.{counts-parts}
use Rattle.list_values.proofs.put_counts.Goals as goal

pub returns : goal.returns
returns c =
    let at-put-count = c in
    let args = at-put-count.args in
    let put-count2 = c.put_count-failures in
    let put-count3 = c.put_count-errors in
    let put-count4 = c.put_count-skipped in
    other (more at-put-count.put_count-tests.ensures (more put-count2.ensures (more put-count3.ensures (more put-count4.ensures c.put_disabled.ensures))))
    (counts-parts (counts args.r.now))
