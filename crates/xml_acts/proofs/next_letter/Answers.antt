use borrow.Author.Tests.{lt-ltb, le-ltb}
use Rattle.xml_acts.proofs.next_letter.Goals as goal

pub returns-then-st-lt255 : goal.returns-then-st-lt255
returns-then-st-lt255 c = rw (lt-ltb c.args.st.word 255 c.if-st-lt255.true)

pub returns-else-st-lt255 : goal.returns-else-st-lt255
returns-else-st-lt255 c = rw (le-ltb c.args.st.word 255 c.if-st-lt255.false)
