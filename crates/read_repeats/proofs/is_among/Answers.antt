use Rattle.read_repeats.proofs.Keys.{seeking-hit, seeking-more, seeking-done}
use native.Mathlib.Omega.{arith}
use Rattle.read_repeats.proofs.is_among.Goals as goal

pub returns-then-has_key : goal.returns-then-has_key
returns-then-has_key c = seeking-hit c.loop-i.invariant c.has_key.ensures (omega arith) c.if-has_key.true

pub loop-i-preserved : goal.loop-i-preserved
loop-i-preserved c = seeking-more c.loop-i.invariant c.has_key.ensures (omega arith) c.if-has_key.false

pub returns : goal.returns
returns c = seeking-done c.loop-i.invariant (omega arith)
