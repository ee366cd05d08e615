use mathlib.Core.Path.{refl}
use native.Mathlib.Omega.{arith}
use borrow.Author.Tests.{lt-ltb, le-ltb}
use Rattle.tree_stamp.specs.Stamp.{cut_offset}
use Rattle.tree_stamp.proofs.offset_of.Goals as goal

pub returns-then-w-lt7439 : goal.returns-then-w-lt7439
unfolding cut_offset
returns-then-w-lt7439 c = rw (lt-ltb c.args.w 7439 c.if-w-lt7439.true) refl

pub overflow_sub-result : goal.overflow_sub-result
overflow_sub-result c = omega (arith, c.if-w-lt7439.false)

pub returns : goal.returns
unfolding cut_offset
returns c = rw (le-ltb c.args.w 7439 c.if-w-lt7439.false) refl
