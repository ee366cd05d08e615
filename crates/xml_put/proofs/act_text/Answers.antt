use Rattle.xml_acts.specs.of_xml_state.inside.Puts.{act_text}
use borrow.Author.Tests.{lt-ltb, le-ltb}
use Rattle.xml_put.proofs.act_text.Goals as goal

pub returns-then-st-at : goal.returns-then-st-at
unfolding act_text
returns-then-st-at c =
    let if1 = c.if-st-at in
    let fresh = c.fresh in
    simp (lt-ltb _ _ if1.true) (rw fresh.ensures at c.put_over.ensures)

pub returns : goal.returns
unfolding act_text
returns c = simp (le-ltb _ _ c.if-st-at.false, c.fresh-2.ensures)
