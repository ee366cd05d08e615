use mathlib.Core.Path.{sym, ◌∙◌}
use Rattle.list_status.proofs.of_list_text.Putting.{more, other}
use Rattle.list_status.specs.of_list_sums.inside.Rows.{records_in}
use Rattle.list_case.proofs.Lines.{case-parts, skipped-parts}
use Rattle.list_case.proofs.put_case.Goals as goal

pub returns-then-is_skipped : goal.returns-then-is_skipped
returns-then-is_skipped c =
    let at-put-case-line = c in
    let args = at-put-case-line.args in
    let put-status = c.put_status-counted in
    let is-skipped = c.is_skipped in
    let if1 = c.if-is_skipped in
    let text = args.text.now in
    let r = args.r.now in
    let rs = records_in args.below.now in
    let e = c.sum_up-s.ensures in
    let s = rw e at put-status.ensures in
    let q = rw e at (sym is-skipped.ensures ∙ if1.true) in
    other (more at-put-case-line.put_case_line-line.ensures (more s c.put.ensures)) (skipped-parts text r rs q)

pub returns : goal.returns
returns c =
    let at-put-case-line = c in
    let args = at-put-case-line.args in
    let put-status = c.put_status-counted in
    let is-skipped = c.is_skipped in
    let if1 = c.if-is_skipped in
    let put-runs = c.put_runs-runs in
    let text = args.text.now in
    let r = args.r.now in
    let rs = records_in args.below.now in
    let e = c.sum_up-s.ensures in
    let s = rw e at put-status.ensures in
    let q = rw e at (sym is-skipped.ensures ∙ if1.false) in
    other (more at-put-case-line.put_case_line-line.ensures (more s (more put-runs.ensures c.put-2.ensures))) (case-parts text r rs q)
