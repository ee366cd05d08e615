use native.Mathlib.Omega.{arith}
use Rattle.std.proofs.Common.{rules}
use Rattle.list_text.proofs.Putting.{puts-full, wrote, wrote-full, wrote-most}
use Rattle.list_text.proofs.put_behind.Goals as goal

pub returns-in_err-used : goal.returns-in_err-used
returns-in_err-used g c = rw c.in_err-used.was (rw c.from_residual.ensures (puts-full c.args.out.now g.t))

pub returns-in_err-n : goal.returns-in_err-n
returns-in_err-n g c =
    rw c.from_residual-in_err-n.ensures
    (wrote-full g.t c.write.result c.args.out.now c.write.new.arg2 (search rules) c.least-from.ensures c.requires.1.1 (search rules) (search rules))

pub overflow_add-result : goal.overflow_add-result
overflow_add-result g c =
    let h = wrote-most g.t c.write.result c.args.out.now c.write.new.arg2 (search rules) c.least-from.ensures c.requires.1.1 (search rules) c.in_ok-n.n (search rules) in
    omega arith

pub returns : goal.returns
returns g c =
    wrote g.t c.write.result c.args.out.now c.write.new.arg2 (search rules) c.least-from.ensures c.requires.1.1 (search rules) c.in_ok-n.n (search rules)
