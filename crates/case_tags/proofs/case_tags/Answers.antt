use native.Mathlib.Omega.{arith}
use Rattle.case_tags.proofs.Counting.{counted_start, counted-more, counted-all}
use Rattle.case_tags.proofs.case_tags.Goals as goal

pub loop-i-init : goal.loop-i-init
loop-i-init c = counted_start _ _

pub overflow_add-count : goal.overflow_add-count
overflow_add-count c =
    let next = counted-more c.loop-i.invariant c.loop-i-test.true _ c.case_tag-count.ensures in
    let l = next.low in
    let h = next.high in
    omega arith

pub loop-i-preserved : goal.loop-i-preserved
loop-i-preserved c = counted-more c.loop-i.invariant c.loop-i-test.true _ c.case_tag-count.ensures

pub returns : goal.returns
returns c = counted-all c.loop-i.invariant c.loop-i-test.false
