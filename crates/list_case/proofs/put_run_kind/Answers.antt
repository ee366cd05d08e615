use Rattle.list_status.proofs.of_list_text.Putting.{other}
use Rattle.list_case.proofs.Lines.{run-failure, run-error}
use Rattle.list_case.proofs.put_run_kind.Goals as goal

pub returns-then-run : goal.returns-then-run
returns-then-run c =
    let args = c.args in
    let if1 = c.if-run in
    other c.put.ensures (run-failure args.run if1.true)

pub returns : goal.returns
returns c =
    let args = c.args in
    let if1 = c.if-run in
    other c.put-2.ensures (run-error args.run if1.false)
