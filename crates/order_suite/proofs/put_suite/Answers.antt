use Rattle.order_case.proofs.of_order_report.Items.{empty-suite, full-suite}
use Rattle.write_document.proofs.of_write_table.Writing.{then, said}
use Rattle.order_suite.proofs.put_suite.Goals as goal

pub returns-then-o-eq0 : goal.returns-then-o-eq0
returns-then-o-eq0 c =
    let start = c in
    let if1 = c.if-o-eq0 in
    let put-suite-tag = c.put_suite_tag in
    said put-suite-tag.ensures (empty-suite start.args.o start.requires if1.true)

pub returns : goal.returns
returns c =
    let at-put-kinds = c in
    let at-put-suite-tag2 = at-put-kinds in
    let at-if1 = at-put-suite-tag2 in
    let start = at-if1 in
    let put-tag = c.put_tag in
    said (then at-put-suite-tag2.put_suite_tag-opened.ensures (then at-put-kinds.put_kinds-inner.ensures (put-tag.ensures _))) (full-suite start.args.o start.requires at-if1.if-o-eq0.false)
