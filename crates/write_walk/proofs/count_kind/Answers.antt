use Prim.Native.Nat.{◌+◌, ◌*◌}
use mathlib.Core.Path.{◌≡◌, sym, ◌∙◌}
use native.Mathlib.Omega.{arith}
use Rattle.write_walk.proofs.Walking.{none-behind, goes-on, counting-start, counting-left, counting-over, counting_more, counting-pass}
use Rattle.write_walk.proofs.count_kind.Goals.{then-is_between, else-is_between}
use Rattle.write_walk.proofs.count_kind.Goals as goal

pub loop-i-init : goal.loop-i-init
loop-i-init c = counting-start c.args.level c.args.k c.args.k _

pub returns-then-here-ends : goal.returns-then-here-ends
returns-then-here-ends c =
    let a = c.args in
    let g = c.loop-i.invariant in record {
      value = counting-left a.level a.words.now (c.loop-i.i * 32) c.field-here.result c.ends.result (omega (arith, c.loop-i-test.true)) c.field-here.ensures c.ends.ensures
          a.k a.k c.loop-i.n g c.if-here-ends.true;
      result_in_bounds = omega (arith, g.most, g.fits);
    }

pub overflow_add-n : goal.overflow_add-n
overflow_add-n c =
    let g = c.loop-i.invariant in omega (arith, g.most, g.fits)

pub loop-i-preserved : goal.loop-i-preserved
loop-i-preserved c =
    let a = c.args in
    let there : c.loop-i.i * 32 + 32 ≡ (c.loop-i.i + 1) * 32 = omega arith in
    let on = goes-on a.level a.words.now (c.loop-i.i * 32) c.field-here.result c.ends.result (omega (arith, c.loop-i-test.true)) c.field-here.ensures c.ends.ensures c.if-here-ends.false in
    elim c.if-is_between.branch [
      | then-is_between w ↦ rw (w.n-is, sym there) (counting_more a.level a.k a.k a.words.now c.loop-i.invariant on.0 (rw c.field-here.ensures at on.1)
          (rw c.field-here.ensures at (sym c.is_between.ensures ∙ w.if-is_between.true)))
      | else-is_between w ↦ rw (w.n-is, sym there) (counting-pass a.level a.k a.k a.words.now c.loop-i.invariant on.0 (rw c.field-here.ensures at on.1)
          (rw c.field-here.ensures at (sym c.is_between.ensures ∙ w.if-is_between.false)))
    ]

pub returns : goal.returns
returns c =
    let a = c.args in
    let g = c.loop-i.invariant in
    record { value = counting-over a.level a.k a.k a.words.now g (none-behind a.words.now (c.loop-i.i * 32) (omega (arith, c.loop-i-test.false))); result_in_bounds = omega (arith, g.most, g.fits) }
