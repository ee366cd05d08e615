use Rattle.tree_slots.proofs.Ends.{boundary-behind, boundary-before}
use Rattle.tree_slots.proofs.is_boundary.Goals as goal

pub returns-then-s-i : goal.returns-then-s-i
returns-then-s-i c = boundary-behind c.args.s.now c.args.i c.if-s-i.true

pub returns : goal.returns
returns c = boundary-before c.args.s.now c.args.i c.if-s-i.false
