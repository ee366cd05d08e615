use borrow.Author.Tests.{eq-eqb, ne_eqb}
use Rattle.xml_ends.proofs.mode_of.Goals as goal

pub returns-then-st-eq-WITHIN : goal.returns-then-st-eq-WITHIN
returns-then-st-eq-WITHIN c = rw (eq-eqb c.args.st.mode 0x78 c.if-st-eq-WITHIN.true)

pub returns-else-st-eq-WITHIN : goal.returns-else-st-eq-WITHIN
returns-else-st-eq-WITHIN c = rw (ne_eqb c.args.st.mode 0x78 c.if-st-eq-WITHIN.false)
