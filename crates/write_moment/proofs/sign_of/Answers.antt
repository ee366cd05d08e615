use mathlib.Core.Path.{refl}
use borrow.Author.Tests.{lt-ltb, le-ltb}
use Rattle.write_moment.proofs.sign_of.Goals as goal

pub returns-then-offset-lt1439 : goal.returns-then-offset-lt1439
returns-then-offset-lt1439 c = rw (lt-ltb c.args.offset 1439 c.if-offset-lt1439.true) refl

pub returns-else-offset-lt1439 : goal.returns-else-offset-lt1439
returns-else-offset-lt1439 c = rw (le-ltb c.args.offset 1439 c.if-offset-lt1439.false) refl
