use Prim.Native.Nat.{◌-◌}
use native.Mathlib.Omega.{arith}
use lib.ListN.{length}
use Rattle.copying.proofs.Copying.{copied-first, copied-lent, copied-done}
use Rattle.copying.proofs.copy_ends.Goals as goal

pub returns : goal.returns
returns g c =
    let n = g.row.N in
    let s = c.args.s.now in
    let pre = c.requires in
    let first = copied-first s c.args.out.now n pre.2 pre.0 _ c.copy_first.ensures in
    copied-done (copied-lent first (length s - n) n (omega (arith, pre.1)) (omega (arith, pre.0)) (omega (arith, pre.0)) _ c.copy_first-2.ensures) (omega (arith, pre.0))
