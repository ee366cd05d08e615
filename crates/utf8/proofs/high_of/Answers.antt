use borrow.Author.Tests.{eq-eqb, ne_eqb}
use Rattle.utf8.specs.Utf8.{high}
use Rattle.utf8.proofs.high_of.Goals as goal

pub returns-then-b : goal.returns-then-b
unfolding high
returns-then-b c = simp c.if-b.true

pub returns-then-b-eq237 : goal.returns-then-b-eq237
unfolding high
returns-then-b-eq237 c = simp (c.if-b.false, eq-eqb _ _ c.if-b-eq237.true)

pub returns-then-b-eq244 : goal.returns-then-b-eq244
unfolding high
returns-then-b-eq244 c = simp (c.if-b.false, ne_eqb _ _ c.if-b-eq237.false, eq-eqb _ _ c.if-b-eq244.true)

pub returns : goal.returns
unfolding high
returns c = simp (c.if-b.false, ne_eqb _ _ c.if-b-eq237.false, ne_eqb _ _ c.if-b-eq244.false)
