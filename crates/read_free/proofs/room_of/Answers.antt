use Rattle.read_free.proofs.Rooms.{worth, room-none, room-some}
use native.Mathlib.Omega.{arith}
use Rattle.read_free.proofs.room_of.Goals as goal

pub returns-then-n-lent : goal.returns-then-n-lent
returns-then-n-lent c = room-none c.args.n c.args.lent c.if-n-lent.true

pub overflow_add-n : goal.overflow_add-n
overflow_add-n c = let w = worth c.args.n c.args.lent c.if-n-lent.false in omega arith

pub returns : goal.returns
returns c = room-some c.args.n c.args.lent c.if-n-lent.false c.least.ensures
