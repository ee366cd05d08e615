use mathlib.Core.Bool.{true}
use mathlib.Core.Path.{◌∙◌}
use native.Mathlib.Omega.{arith}
use Rattle.utf8.proofs.Runs.{ok-lead, ok-ascii, ok-tail}
use Rattle.utf8.proofs.is_run.Goals as goal
use Rattle.utf8.proofs.is_run.Goals.{then-k-eq0+then-b-ge128, then-k-eq0+else-b-ge128, else-k-eq0+else-b-lo}

pub loop-b-preserved : goal.loop-b-preserved
loop-b-preserved c =
    let l = c.loop-b in
    let t = c.loop-b-test.true in
    elim c.if-k-eq0.branch [
      | then-k-eq0+then-b-ge128 w ↦ rw (w.k-is, w.lo-is, w.hi-is, w.need_of-k.ensures, w.low_of-lo.ensures, w.high_of-hi.ensures) (l.invariant ∙ ok-lead _ l.b-index l.k l.lo l.hi t w.if-k-eq0.true)
      | then-k-eq0+else-b-ge128 w ↦ rw (w.k-is, w.lo-is, w.hi-is) (l.invariant ∙ ok-ascii _ l.b-index l.k l.lo l.hi t w.if-k-eq0.true w.if-b-ge128.false)
      | else-k-eq0+else-b-lo w ↦ rw (w.k-is, w.lo-is, w.hi-is) (l.invariant ∙ ok-tail _ l.b-index l.k l.lo l.hi t true (omega arith) (search (arith, w.if-b-lo.false)))
    ]
