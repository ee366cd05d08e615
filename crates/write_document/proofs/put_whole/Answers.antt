use Rattle.write_document.proofs.Documents.{document-parts}
use Rattle.list_sums.specs.inside.Rows.{records_in}
use Rattle.write_marks.proofs.of_write_table.Writing.{then, said}
use Rattle.write_document.proofs.put_whole.Goals as goal

pub returns : goal.returns
returns c =
    let at-put-suites = c in
    let at-put-head = at-put-suites in
    let args = at-put-head.args in
    let put-tail = c.put_tail in
    said (then at-put-head.put_head-head.ensures (then at-put-suites.put_suites-suites.ensures (put-tail.ensures _))) (document-parts args.text.now args.r.now (records_in args.below.now))
