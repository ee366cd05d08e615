use Rattle.escape.specs.Escape.{letter}
use borrow.Author.Tests.{ne_eqb}
use Rattle.escape.proofs.letter_of.Goals as goal

pub returns-in-10 : goal.returns-in-10
unfolding letter
returns-in-10 c = simp c.in-10.is

pub returns-in-9 : goal.returns-in-9
unfolding letter
returns-in-9 c = simp c.in-9.is

pub returns-in-13 : goal.returns-in-13
unfolding letter
returns-in-13 c = simp c.in-13.is

pub returns-in_default : goal.returns-in_default
unfolding letter
returns-in_default c = let b = c.args.b in let n = c.in_default.in_default-own.rest in simp (ne_eqb b 10 n.0.0.1, ne_eqb b 9 n.0.1, ne_eqb b 13 n.1)
