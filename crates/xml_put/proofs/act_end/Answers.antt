use Rattle.xml_acts.specs.of_xml_state.inside.Puts.{act_end}
use Rattle.xml_put.proofs.act_end.Goals as goal

pub returns : goal.returns
unfolding act_end
returns c =
    let less = c.less in
    let wide = c.wide-i in
    let field = c.field-link in
    let put-field = c.put_field in
    let shut = c.shut in
    let settled = c.settled in
    rw (settled.ensures, shut.ensures, put-field.ensures, field.ensures, wide.ensures, less.ensures) at c.put_sized.ensures
