use borrow.Author.Tests.{lt-ltb, le-ltb}
use Rattle.utf8.specs.Utf8.{need}
use Rattle.utf8.proofs.need_of.Goals as goal

pub returns-then-b-lt128 : goal.returns-then-b-lt128
unfolding need
returns-then-b-lt128 c = simp (lt-ltb _ _ c.if-b-lt128.true)

pub returns-then-b-lt224 : goal.returns-then-b-lt224
unfolding need
returns-then-b-lt224 c = simp (le-ltb _ _ c.if-b-lt128.false, lt-ltb _ _ c.if-b-lt224.true)

pub returns-then-b-lt240 : goal.returns-then-b-lt240
unfolding need
returns-then-b-lt240 c = simp (le-ltb _ _ c.if-b-lt128.false, le-ltb _ _ c.if-b-lt224.false, lt-ltb _ _ c.if-b-lt240.true)

pub returns-then-b-lt245 : goal.returns-then-b-lt245
unfolding need
returns-then-b-lt245 c = simp (le-ltb _ _ c.if-b-lt128.false, le-ltb _ _ c.if-b-lt224.false, le-ltb _ _ c.if-b-lt240.false, lt-ltb _ _ c.if-b-lt245.true)

pub returns : goal.returns
unfolding need
returns c = simp (le-ltb _ _ c.if-b-lt128.false, le-ltb _ _ c.if-b-lt224.false, le-ltb _ _ c.if-b-lt240.false, le-ltb _ _ c.if-b-lt245.false)
