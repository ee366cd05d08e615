use Rattle.xml_part.specs.of_xml_state.inside.Acts.{closing_of}
use Rattle.xml_acts.proofs.closing.Goals as goal

pub returns : goal.returns
unfolding closing_of
returns c = rw (c.field-2.ensures, c.field.ensures, c.wide-i.ensures, c.less.ensures)
