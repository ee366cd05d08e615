use borrow.Author.Tests.{lt-ltb, le-ltb}
use Rattle.refusal.proofs.Path.with.Goals as goal

pub returns-then-n-lt6 : goal.returns-then-n-lt6
returns-then-n-lt6 c = simp (lt-ltb _ 6 c.if-n-lt6.true)

pub returns-else-n-lt6 : goal.returns-else-n-lt6
returns-else-n-lt6 c = simp (le-ltb _ 6 c.if-n-lt6.false)
