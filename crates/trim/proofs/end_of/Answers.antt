use Prim.Native.Nat.{◌+◌, ◌-◌}
use mathlib.Core.Path.{◌≡◌, ◌∙◌}
use native.Mathlib.Omega.{arith}
use Rattle.trim.proofs.Backward.{back-white, back-black}
use Rattle.trim.proofs.end_of.Goals as goal

pub returns-then-not-is_white : goal.returns-then-not-is_white
returns-then-not-is_white c =
    let n = c.loop-i.i in
    let whole : n - 1 + 1 ≡ n = omega arith in
    rw whole (omega arith, c.loop-i.invariant ∙ back-black _ n (omega arith) (omega arith) (omega arith) c.is_white.result c.is_white.ensures c.if-not-is_white.true)

pub loop-i-preserved : goal.loop-i-preserved
loop-i-preserved c = c.loop-i.invariant ∙ back-white _ c.loop-i.i (omega arith) (omega arith) (omega arith) c.is_white.result c.is_white.ensures c.if-not-is_white.false
