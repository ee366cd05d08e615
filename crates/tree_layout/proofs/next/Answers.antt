use mathlib.Core.Path.{refl}
use borrow.Author.Tests.{lt-ltb, le-ltb}
use Rattle.tree_layout.specs.inside.Walk.{behind}
use Rattle.tree_layout.proofs.next.Goals as goal

pub returns-then-r-lt-DEAD : goal.returns-then-r-lt-DEAD
unfolding behind
returns-then-r-lt-DEAD c = rw (lt-ltb _ _ c.if-r-lt-DEAD.true) c.following.ensures

pub returns : goal.returns
unfolding behind
returns c = rw (le-ltb _ _ c.if-r-lt-DEAD.false) refl
