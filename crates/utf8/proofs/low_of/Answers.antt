use borrow.Author.Tests.{eq-eqb, ne_eqb}
use Rattle.utf8.specs.Utf8.{low}
use Rattle.utf8.proofs.low_of.Goals as goal

pub returns-then-b-eq224 : goal.returns-then-b-eq224
unfolding low
returns-then-b-eq224 c = simp (eq-eqb _ _ c.if-b-eq224.true)

pub returns-then-b-eq240 : goal.returns-then-b-eq240
unfolding low
returns-then-b-eq240 c = simp (ne_eqb _ _ c.if-b-eq224.false, eq-eqb _ _ c.if-b-eq240.true)

pub returns : goal.returns
unfolding low
returns c = simp (ne_eqb _ _ c.if-b-eq224.false, ne_eqb _ _ c.if-b-eq240.false)
