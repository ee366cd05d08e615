use borrow.Author.Tests.{lt-ltb, le-ltb}
use mathlib.Core.Path.{refl}
use Rattle.write_values.proofs.known.Goals as goal

pub returns-then-code-lt17 : goal.returns-then-code-lt17
returns-then-code-lt17 c = rw (lt-ltb c.args.code 17 c.if-code-lt17.true) refl

pub returns-else-code-lt17 : goal.returns-else-code-lt17
returns-else-code-lt17 c = rw (le-ltb c.args.code 17 c.if-code-lt17.false) refl
