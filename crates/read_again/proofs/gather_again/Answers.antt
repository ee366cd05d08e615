use Rattle.std.specs.Prelude.{Some}
use Prim.Native.Nat.{◌-◌}
use mathlib.Core.Path.{refl, ap, ◌∙◌}
use Rattle.read_again.proofs.Looping.{loop-starts, loop-room, loop-same, loop-goes, loop-done, loop-full}
use Rattle.read_again.proofs.gather_again.Goals as goal

pub loop-a-init : goal.loop-a-init
loop-a-init c = loop-starts _ _ _ _ c.requires.from_bound

pub go_over-requires : goal.go_over-requires
go_over-requires c = record { known = c.requires.known; fill_in_bounds = loop-room c.loop-a.invariant }

pub loop-a-smaller : goal.loop-a-smaller
loop-a-smaller c = (loop-goes c.loop-a.invariant _ _ c.in_ok-a.ensures _ (ap Some c.in-Some.is)).1

pub loop-a-preserved : goal.loop-a-preserved
loop-a-preserved c = (loop-goes c.loop-a.invariant _ _ c.in_ok-a.ensures _ (ap Some c.in-Some.is)).0

pub returns : goal.returns
returns c =
    let d = loop-done c.loop-a.invariant _ _ c.in_ok-a.ensures (ap Some c.in_default.is) in
    record { by_index = λ attributes. (d attributes).0; by_index_2 = λ attributes. (d attributes).1 }

pub returns-in_err-a : goal.returns-in_err-a
returns-in_err-a c =
    let d = loop-full c.loop-a.invariant _ _ c.in_err-a.ensures refl in
    rw c.from_residual.ensures (record { by_index = λ attributes. (d attributes).0; by_index_2 = λ attributes. (d attributes).1 })
