use Prim.Native.Nat.{◌-◌}
use mathlib.Core.Path.{sym}
use native.Mathlib.Omega.{arith}
use lib.Seq.{length-take-le}
use lib.ListN.{length, take, drop}
use Rattle.table.proofs.of_area.Seeking.{first-within}
use Rattle.explain_lines.proofs.Passing.{newline-within, passing-start, passing-more, passing-done}
use Rattle.explain_lines.proofs.line_in.Goals as goal

pub loop-k-init : goal.loop-k-init
loop-k-init c = passing-start _ _

pub slice_bounds-first_at-count : goal.slice_bounds-first_at-count
slice_bounds-first_at-count c = omega (arith, c.loop-k.invariant.within)

pub slice_bounds-first_at-start : goal.slice_bounds-first_at-start
slice_bounds-first_at-start c = omega (arith, c.loop-k.invariant.within)

pub overflow_add-at : goal.overflow_add-at
overflow_add-at c =
    let good = c.well_formed in
    omega (arith, newline-within c.loop-k.invariant c.first_at-n.result c.first_at-n.ensures, good)

pub overflow_add-at-in-loop-k : goal.overflow_add-at-in-loop-k
overflow_add-at-in-loop-k c =
    let good = c.well_formed in
    omega (arith, newline-within c.loop-k.invariant c.first_at-n.result c.first_at-n.ensures, good)

pub loop-k-preserved : goal.loop-k-preserved
loop-k-preserved c =
    let loop = c.loop-k in
    passing-more loop.invariant c.first_at-n.result c.first_at-n.ensures c.loop-k-test.true c.least-at.result c.least-at.ensures

pub slice_bounds-rest-count : goal.slice_bounds-rest-count
slice_bounds-rest-count c = omega (arith, c.loop-k.invariant.within)

pub slice_bounds-rest-start : goal.slice_bounds-rest-start
slice_bounds-rest-start c = omega (arith, c.loop-k.invariant.within)

pub slice_bounds-result-end : goal.slice_bounds-result-end
slice_bounds-result-end c =
    let loop = c.loop-k in
    let a = c.args in
    let rest = take (length a.text.now - loop.at) (drop loop.at a.text.now) in
    sym (length-take-le c.first_at-n-2.result rest (rw c.first_at-n-2.ensures (first-within 10 rest)))

pub returns : goal.returns
returns c =
    let loop = c.loop-k in
    passing-done loop.invariant c.first_at-n-2.result c.first_at-n-2.ensures c.loop-k-test.false
