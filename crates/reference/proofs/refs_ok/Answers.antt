use native.Mathlib.Omega.{arith}
use Rattle.reference.proofs.Checking.{Checking, checking-good}
use Prim.Native.Nat.{◌+◌}
use Rattle.reference.proofs.refs_ok.Goals as goal
use Rattle.reference.proofs.refs_ok.Goals.{In-Some}

passed : (c : In-Some) → Checking c.args.s.now (c.loop-i.i + 1 + c.in-Some.w)
passed c = checking-good c.loop-i.invariant c.loop-i-test.true c.if-b-eq38.true c.ref_at.ensures c.in-Some.field-0-0 c.in-Some.w c.in-Some.is

pub overflow_add-i-then-b-eq38 : goal.overflow_add-i-then-b-eq38
overflow_add-i-then-b-eq38 c = omega (arith, (passed (goal.at.overflow_add-i-then-b-eq38 c).In-Some).within)

pub loop-i-preserved-then-b-eq38 : goal.loop-i-preserved-then-b-eq38
loop-i-preserved-then-b-eq38 c = passed (goal.at.loop-i-preserved-then-b-eq38 c).In-Some
