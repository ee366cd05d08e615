use Rattle.xml_acts.specs.of_xml_state.inside.Puts.{act_ref}
use Rattle.xml_put.proofs.act_ref.Goals as goal

pub returns-then-home : goal.returns-then-home
unfolding act_ref
returns-then-home c = simp c.if-home.true

pub returns : goal.returns
unfolding act_ref
returns c =
    let if1 = c.if-home in
    let fresh = c.fresh in
    simp if1.false (rw fresh.ensures at c.put_over.ensures)
