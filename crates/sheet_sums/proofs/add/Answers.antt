use Rattle.std.proofs.lemmas.Result.{err_from_is_err_and}
use Rattle.sheet_sums.proofs.Running.{added-on, added_out, added_none}
use Rattle.sheet_sums.proofs.add.Goals as goal

pub returns-in_err-t : goal.returns-in_err-t
returns-in_err-t c =
    let q = err_from_is_err_and c.from_residual.result c.from_residual.ensures.1 in
    rw (q.1, q.2) (added_none c.args.t _ c.args.c c.in_err-t.was)

pub returns-in-Accepted : goal.returns-in-Accepted
returns-in-Accepted c = added-on c.args.t _ c.args.c _ c.in_ok-t.was c.add_test_suite-counted.ensures c.in-Accepted.is

pub returns-in-Refused : goal.returns-in-Refused
returns-in-Refused c = added_out c.args.t _ c.args.c _ c.in_ok-t.was c.add_test_suite-counted.ensures c.in-Refused.is
