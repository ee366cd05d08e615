use Rattle.xml_part.specs.of_xml_state.inside.Acts.{opened_of}
use borrow.Author.Tests.{ne_eqb}
use mathlib.Core.Path.{refl, ◌∙◌}
use Rattle.xml_acts.proofs.opened.Goals as goal

pub returns-in-67 : goal.returns-in-67
unfolding opened_of
returns-in-67 c = rw c.in-67.is c.led.ensures

pub returns-in-83 : goal.returns-in-83
unfolding opened_of
returns-in-83 c = rw c.in-83.is c.led-in-83.ensures

pub returns-in-72 : goal.returns-in-72
unfolding opened_of
returns-in-72 c = rw c.in-72.is (c.led-in-72.ensures ∙ rw c.marked.ensures refl)

pub returns-in-78 : goal.returns-in-78
unfolding opened_of
returns-in-78 c = rw c.in-78.is c.led-in-78.ensures

pub returns-in_default : goal.returns-in_default
unfolding opened_of
returns-in_default c =
    let a = c.args in
    let n = c.in_default.in_default-own.rest in rw (ne_eqb a.m.act 0x43 n.0.0.0.1, ne_eqb a.m.act 0x53 n.0.0.1, ne_eqb a.m.act 0x48 n.0.1, ne_eqb a.m.act 0x4E n.1) c.spelling.ensures
