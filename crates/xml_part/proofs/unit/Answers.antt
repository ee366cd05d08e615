use borrow.Author.Tests.{ne_eqb}
use native.Mathlib.Omega.{arith}
use Rattle.xml_part.proofs.unit.Goals as goal

pub returns-in-1 : goal.returns-in-1
returns-in-1 c = (simp c.in-1.is, omega arith, omega arith)

pub returns-in-2 : goal.returns-in-2
returns-in-2 c = (simp c.in-2.is, omega arith, omega arith)

pub returns-in_default : goal.returns-in_default
returns-in_default c = let n = c.in_default.in_default-own.rest in (simp (ne_eqb c.args.left 1 n.0.1, ne_eqb c.args.left 2 n.1), omega arith, omega arith)
