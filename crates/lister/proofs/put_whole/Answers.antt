use Rattle.list_suites.proofs.of_list_text.Putting.{more, other}
use Rattle.list_suites.specs.of_list_sums.inside.Rows.{records_in}
use Rattle.lister.proofs.Lines.{whole_parts}
use Rattle.lister.proofs.put_whole.Goals as goal

pub returns : goal.returns
returns c =
    let at-put-first = c in
    let at-put = at-put-first in
    let args = at-put.args in
    let put-counts = c.put_counts-counts in
    let put-suites = c.put_suites-suites in
    other (more at-put.put-opened.ensures (more at-put-first.put_first-name.ensures (more put-counts.ensures (more put-suites.ensures c.put.ensures))))
    (whole_parts args.text.now args.r.now (records_in args.below.now))
