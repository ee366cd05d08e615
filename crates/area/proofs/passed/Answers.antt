use Prim.Native.Nat.{◌+◌, ◌*◌}
use mathlib.Core.Path.{◌≡◌, sym, ◌∙◌}
use native.Mathlib.Omega.{arith}
use Rattle.area.proofs.Blocks.{seeking_block}
use Rattle.area.proofs.passed.Goals as goal

pub loop-k-preserved : goal.loop-k-preserved
loop-k-preserved c =
    let from = c.loop-k.k * 64 in
    let there : from + 64 ≡ (c.loop-k.k + 1) * 64 = omega arith in
    rw (sym there) (seeking_block c.loop-k.invariant (from + 64) (omega arith) (omega arith) (sym c.is_without.ensures ∙ c.if-not-is_without.false))
