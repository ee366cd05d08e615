use Rattle.xml_acts.specs.of_xml_state.inside.Puts.{act_between}
use Rattle.xml_put.proofs.act_between.Goals as goal

pub returns : goal.returns
unfolding act_between
returns c =
    let fresh = c.fresh in
    let less = c.less in
    rw (fresh.ensures, less.ensures) at c.put_over.ensures
