use Prim.Native.Nat.{ℕ}
use mathlib.Core.Path.{sym}
use native.Mathlib.Omega.{arith}
use lib.ListN.{length-replicate}
use lib.Seq.{length-take-le}
use Rattle.test_writing.proofs.try_largest.Goals as goal

pub slice_bounds-try_order-end : goal.slice_bounds-try_order-end
slice_bounds-try_order-end g c =
    let pre = c.requires in
    let l = length-replicate {A = ℕ} 81955 7 in
    sym (length-take-le _ _ (omega (arith, pre.0, l)))

pub slice_bounds-try_order-end-2 : goal.slice_bounds-try_order-end-2
slice_bounds-try_order-end-2 g c =
    let pre = c.requires in
    let l = length-replicate {A = ℕ} 20530 7 in
    sym (length-take-le _ _ (omega (arith, pre.1, l)))

pub slice_bounds-try_order-end-3 : goal.slice_bounds-try_order-end-3
slice_bounds-try_order-end-3 g c =
    let pre = c.requires in
    let l = length-replicate {A = ℕ} 212046 7 in
    sym (length-take-le _ _ (omega (arith, pre.2, l)))
