use borrow.Author.Tests.{eq-eqb, ne_eqb}
use Rattle.write_elements.proofs.main_tag.Goals as goal

pub returns-then-k-eq-FAILURE : goal.returns-then-k-eq-FAILURE
returns-then-k-eq-FAILURE c = rw (eq-eqb c.args.k 6 c.if-k-eq-FAILURE.true)

pub returns-else-k-eq-FAILURE : goal.returns-else-k-eq-FAILURE
returns-else-k-eq-FAILURE c = rw (ne_eqb c.args.k 6 c.if-k-eq-FAILURE.false)
