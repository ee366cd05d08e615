use Rattle.xml_acts.specs.of_xml_state.inside.Puts.{act_empty}
use Rattle.xml_put.proofs.act_empty.Goals as goal

pub returns : goal.returns
unfolding act_empty
returns c =
    let shut = c.shut in
    let settled = c.settled in
    rw (settled.ensures, shut.ensures) at c.put_tag.ensures
