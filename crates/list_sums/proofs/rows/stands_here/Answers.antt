use mathlib.Core.Path.{refl}
use native.Mathlib.Omega.{arith}
use borrow.Author.Tests.{le-leb, lt-leb}
use lib.ListN.{length}
use Rattle.list_sums.proofs.rows.stands_here.Goals as goal

pub returns-then-words-lt32 : goal.returns-then-words-lt32
returns-then-words-lt32 c = rw (lt-leb 32 (length c.args.words.now) (omega arith)) refl

pub returns : goal.returns
returns c = rw (le-leb 32 (length c.args.words.now) (omega arith)) refl
