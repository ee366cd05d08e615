use Prim.Native.Nat.{◌+◌}
use native.Mathlib.Omega.{arith}
use borrow.Author.Tests.{le-leb, lt-leb}
use Rattle.tree_layout.specs.inside.Walk.{stands_at}
use Rattle.tree_layout.proofs.stands_at.Goals as goal

pub returns-then-limit-at-lt32 : goal.returns-then-limit-at-lt32
unfolding stands_at
returns-then-limit-at-lt32 c = simp (lt-leb (c.args.at + 32) c.args.limit (omega arith))

pub returns : goal.returns
unfolding stands_at
returns c = simp (le-leb (c.args.at + 32) c.args.limit (omega arith))
