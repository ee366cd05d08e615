use Rattle.list_status.proofs.of_list_text.Putting.{more, other}
use Rattle.list_case.proofs.Lines.{run-parts}
use Rattle.list_case.proofs.put_run.Goals as goal

pub returns : goal.returns
returns c =
    let args = c.args in
    let field = c.field in
    let put-run-kind = c.put_run_kind-opened in
    let put-time = c.put_time-time in
    other (more (rw field.ensures at put-run-kind.ensures) (more put-time.ensures c.put.ensures)) (run-parts args.r.now)
