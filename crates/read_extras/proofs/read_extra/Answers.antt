use Rattle.std.proofs.lemmas.Result.{err_from_is_err_and}
use Rattle.read_extras.proofs.Choosing.{read-key, read-value, read-put, hint-keyed}
use Rattle.read_extras.proofs.read_extra.Goals as goal

pub returns-in_err-check_value : goal.returns-in_err-check_value
returns-in_err-check_value c =
    let q = err_from_is_err_and c.from_residual.result c.from_residual.ensures.1 in
    λ x g rooms p used ek ev hd ro k. rw (q.1, q.2) (read-key rooms p used c.args.kind x g ek ev c.in_err-check_value.ensures)

pub returns-in_err-check_value-2 : goal.returns-in_err-check_value-2
returns-in_err-check_value-2 c =
    let q = err_from_is_err_and c.from_residual-in_err-check_value-2.result c.from_residual-in_err-check_value-2.ensures.1 in
    λ x g rooms p used ek ev hd ro k. rw (q.1, q.2) (read-value rooms p used c.args.kind x g ek ev c.in_ok-check_value.ensures c.in_err-check_value-2.ensures)

pub returns : goal.returns
returns c =
    λ x g rooms p used ek ev hd ro k. read-put rooms p used c.args.kind x g ek ev c.in_ok-check_value.ensures c.in_ok-check_value-2.ensures
    (c.put_extra.ensures g rooms p used hd ro (hint-keyed g ek k))
