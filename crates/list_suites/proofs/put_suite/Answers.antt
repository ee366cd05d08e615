use Rattle.list_case.proofs.of_list_text.Putting.{more, other}
use Rattle.list_case.specs.of_list_sums.inside.Rows.{records_in}
use Rattle.list_suites.proofs.Lines.{suite-parts}
use Rattle.list_suites.proofs.put_suite.Goals as goal

pub returns : goal.returns
returns c =
    let at-put-name = c in
    let at-put = at-put-name in
    let args = at-put.args in
    let put-counts = c.put_counts-counts in
    let put-cases = c.put_cases-cases in
    other (more at-put.put-opened.ensures (more at-put-name.put_name-name.ensures (more put-counts.ensures (more put-cases.ensures c.put.ensures))))
    (suite-parts args.text.now args.r.now (records_in args.below.now))
