use native.Mathlib.Omega.{arith}
use Rattle.write_escape.proofs.Escaping.{plain-full, plain-put}
use Rattle.write_escape.specs.Escape.{written}
use Rattle.write_escape.proofs.put_byte.Goals as goal

pub returns-then-out-eq0 : goal.returns-then-out-eq0
returns-then-out-eq0 c = let n = c.in_default.in_default-own.rest in
    let both = plain-full c.args.b n.0.0.0.0.1 n.0.0.0.1 n.0.0.1 n.0.1 n.1 c.args.out.now (omega arith) in record { result_value = both.0; out_after = both.1 }

pub returns-in-38 : goal.returns-in-38
unfolding written
returns-in-38 c =
    rw c.in-38.is (c.copy_into.ensures)

pub returns-in-60 : goal.returns-in-60
unfolding written
returns-in-60 c =
    rw c.in-60.is (c.copy_into-in-60.ensures)

pub returns-in-62 : goal.returns-in-62
unfolding written
returns-in-62 c =
    rw c.in-62.is (c.copy_into-in-62.ensures)

pub returns-in-39 : goal.returns-in-39
unfolding written
returns-in-39 c =
    rw c.in-39.is (c.copy_into-in-39.ensures)

pub returns-in-34 : goal.returns-in-34
unfolding written
returns-in-34 c =
    rw c.in-34.is (c.copy_into-in-34.ensures)

pub returns-else-out-eq0 : goal.returns-else-out-eq0
returns-else-out-eq0 c = let n = c.in_default.in_default-own.rest in
    let both = plain-put c.args.b n.0.0.0.0.1 n.0.0.0.1 n.0.0.1 n.0.1 n.1 c.args.out.now (omega arith) in record { result_value = both.0; out_after = both.1 }
