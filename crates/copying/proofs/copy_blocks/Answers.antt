use Prim.Native.Nat.{◌+◌, ◌-◌, ◌*◌}
use mathlib.Core.Path.{◌≡◌, sym}
use native.Mathlib.Omega.{arith}
use lib.ListN.{length}
use Rattle.copying.proofs.Copying.{copied-lent, copied-done}
use Rattle.copying.proofs.copy_blocks.Goals as goal

pub loop-k-preserved : goal.loop-k-preserved
loop-k-preserved c =
    let from = c.loop-k.k * 16 in
    let there : from + 16 ≡ (c.loop-k.k + 1) * 16 = omega arith in
    rw (sym there) (copied-lent c.loop-k.invariant from 16 (omega arith) (omega arith) (omega arith) _ c.copy_first.ensures)

pub returns : goal.returns
returns c =
    let s = c.args.s.now in
    copied-done (copied-lent c.loop-k.invariant (length s - 16) 16 (omega arith) (omega arith) (omega arith) _ c.copy_first-2.ensures) (omega arith)
