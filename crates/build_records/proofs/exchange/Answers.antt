use Prim.Native.Nat.{◌*◌}
use native.Mathlib.Omega.{arith}
use Rattle.build_records.proofs.Exchanging.{exchanging-start, exchanging-swap, exchanging-done}
use Rattle.build_records.proofs.exchange.Goals as goal

pub loop-j-init : goal.loop-j-init
loop-j-init c = exchanging-start c.args.records.now (c.args.i * 32) (omega arith)

pub loop-j-preserved : goal.loop-j-preserved
loop-j-preserved c = exchanging-swap c.loop-j.invariant c.loop-j-test.true (omega arith) c.swap.ensures.after

pub returns : goal.returns
returns c = exchanging-done c.args.i c.loop-j.invariant c.loop-j-test.false
