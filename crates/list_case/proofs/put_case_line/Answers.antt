use mathlib.Core.List.{[]}
use Rattle.list_status.proofs.of_list_text.Putting.{more, other}
use Rattle.list_case.proofs.Lines.{opened-parts}
use Rattle.list_case.proofs.put_case_line.Goals as goal

pub returns : goal.returns
returns c =
    let at-put = c in
    let args = at-put.args in
    let put-name = c.put_name-name in
    let put-classname = c.put_classname-classname in
    other (more at-put.put-opened.ensures (more put-name.ensures (more put-classname.ensures c.put_time.ensures))) (opened-parts args.text.now args.r.now [])
