use Prim.Native.Nat.{◌-◌}
use mathlib.Core.Path.{sym}
use native.Mathlib.Nat.{min-le_right}
use native.Mathlib.Omega.{arith}
use lib.ListN.{length, take, drop}
use lib.Seq.{length-take-le}
use Rattle.list_values.proofs.Cutting.{part_cut}
use Rattle.list_values.proofs.part_of.Goals as goal

pub slice_bounds-result-end : goal.slice_bounds-result-end
slice_bounds-result-end c =
    let args = c.args in
    let text = args.text.now in
    let from = c.least-from.result in
    sym (length-take-le _ _ (omega (arith, c.least-to.ensures, min-le_right args.len (length (take (length text - from) (drop from text))))))

pub returns : goal.returns
returns c =
    let args = c.args in
    part_cut args.text.now args.start args.len c.least-from.result
    c.least-to.result c.least-from.ensures c.least-to.ensures
