use mathlib.Core.Path.{ap, ◌∙◌}
use Rattle.utf8_lossy.specs.of_area.Area.{stored_answer}
use native.Mathlib.Omega.{arith}
use Rattle.utf8_lossy.proofs.of_area.Laying.{laying-start, laying_on, laying-done}
use Rattle.text_filter.specs.Filter.{filtered}
use Rattle.text_filter.proofs.Filtering.{filtered-append}
use Rattle.utf8_lossy.proofs.Putting.{part-moves, part-fits, part-full, part-put, put-room}
use Rattle.utf8_lossy.proofs.Replacing.{lossy-end}
use Rattle.utf8_lossy.specs.of_refusal.declared.Cause.TheVariants as cause
use Rattle.text_lossy.proofs.store_lossy.Goals as goal

pub loop-i-init : goal.loop-i-init
loop-i-init c = (omega arith, laying-start _ _)

pub slice_bounds-store_part-count : goal.slice_bounds-store_part-count
slice_bounds-store_part-count c = omega (arith, c.loop-i.invariant.1.fits)

pub slice_bounds-store_part-start : goal.slice_bounds-store_part-start
slice_bounds-store_part-start c = omega (arith, c.loop-i.invariant.1.fits)

pub store_part-requires : goal.store_part-requires
store_part-requires c = c.part_of-p.ensures

pub returns-in_err-n : goal.returns-in_err-n
returns-in_err-n c =
    let args = c.args in
    let loop = c.loop-i in
    let loop-test = c.loop-i-test in
    let p = c.part_of-p in
    let q = c.store_part in
    let both = part-full args.s.now loop.i loop-test.true p.result p.ensures filtered filtered-append cause.TextFull loop.invariant.1 _ _ q.ensures.result_value q.ensures.out_after c.in_err-n.was in record { result_value = ap (stored_answer cause.TextFull) c.from_residual.ensures ∙ both.0; out_after = both.1 }

pub overflow_add-k : goal.overflow_add-k
overflow_add-k c =
    let args = c.args in
    let loop = c.loop-i in
    let loop-test = c.loop-i-test in
    let p = c.part_of-p in
    let q = c.store_part in
    let h = put-room args.s.now loop.i loop-test.true p.result p.ensures filtered filtered-append
    cause.TextFull loop.invariant.1 _ _ q.ensures.result_value q.ensures.out_after _ c.in_ok-n.was in
    omega arith

pub overflow_add-i : goal.overflow_add-i
overflow_add-i c =
    let args = c.args in
    let loop = c.loop-i in
    let loop-test = c.loop-i-test in
    let p = c.part_of-p in
    let h = part-fits args.s.now loop.i loop-test.true p.result p.ensures in
    omega arith

pub loop-i-smaller : goal.loop-i-smaller
loop-i-smaller c =
    let args = c.args in
    let loop = c.loop-i in
    let loop-test = c.loop-i-test in
    let p = c.part_of-p in
    let h = part-moves args.s.now loop.i loop-test.true p.result p.ensures in
    omega arith

pub loop-i-preserved : goal.loop-i-preserved
loop-i-preserved c =
    let args = c.args in
    let loop = c.loop-i in
    let loop-test = c.loop-i-test in
    let p = c.part_of-p in
    let q = c.store_part in (
      part-fits args.s.now loop.i loop-test.true p.result p.ensures,
      part-put args.s.now loop.i loop-test.true p.result p.ensures filtered filtered-append
          cause.TextFull loop.invariant.1 _ _ q.ensures.result_value q.ensures.out_after _ c.in_ok-n.was,
    )

pub returns : goal.returns
returns c = let both = laying-done cause.TextFull (laying_on c.loop-i.invariant.1 (ap filtered (lossy-end _ c.loop-i.i c.loop-i-test.false))) in record { result_value = both.0; out_after = both.1 }
