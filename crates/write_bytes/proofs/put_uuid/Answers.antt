use native.Mathlib.Omega.{arith}
use Rattle.write_uuid.specs.Written.{uuid_text}
use Rattle.list_text.proofs.Putting.{full-stays, lent-put, lent-full, lent-most}
use Rattle.write_bytes.proofs.put_uuid.Goals as goal

pub returns-in_err-used : goal.returns-in_err-used
returns-in_err-used c = rw c.from_residual.ensures (full-stays _ _ c.in_err-used.was)

pub returns-in_err-n : goal.returns-in_err-n
returns-in_err-n c =
    rw c.from_residual-in_err-n.ensures
    (lent-full _ c.args.out.now (uuid_text c.args.w) _ _ _ c.min-from.ensures c.write_uuid.ensures.out_after c.write_uuid.ensures.result_value c.in_ok-used.was c.in_err-n.was)

pub returns : goal.returns
returns c = lent-put _ c.args.out.now (uuid_text c.args.w) _ _ _ c.min-from.ensures c.write_uuid.ensures.out_after c.write_uuid.ensures.result_value _ c.in_ok-used.was c.in_ok-n.was
