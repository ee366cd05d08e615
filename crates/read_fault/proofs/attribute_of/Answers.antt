use borrow.Author.Tests.{le-leb, lt-leb}
use Rattle.read_fault.proofs.attribute_of.Goals as goal

pub returns-then-key-le14 : goal.returns-then-key-le14
returns-then-key-le14 c = simp (le-leb _ 14 c.if-key-le14.true)

pub returns-else-key-le14 : goal.returns-else-key-le14
returns-else-key-le14 c = simp (lt-leb _ 14 c.if-key-le14.false)
