use borrow.Author.Tests.{ne_eqb}
use Rattle.xml_acts.proofs.word_of.Goals as goal

pub returns-in-48 : goal.returns-in-48
returns-in-48 c = rw c.in-48.is

pub returns-in-49 : goal.returns-in-49
returns-in-49 c = rw c.in-49.is

pub returns-in-50 : goal.returns-in-50
returns-in-50 c = rw c.in-50.is

pub returns-in-51 : goal.returns-in-51
returns-in-51 c = rw c.in-51.is

pub returns-in-52 : goal.returns-in-52
returns-in-52 c = rw c.in-52.is

pub returns-in-53 : goal.returns-in-53
returns-in-53 c = rw c.in-53.is

pub returns-in-54 : goal.returns-in-54
returns-in-54 c = rw c.in-54.is

pub returns-in-55 : goal.returns-in-55
returns-in-55 c = rw c.in-55.is

pub returns-in_default : goal.returns-in_default
returns-in_default c =
    let a = c.args in
    let n = c.in_default.in_default-own.rest in rw (ne_eqb a.act 0x30 n.0.0.0.0.0.0.0.1, ne_eqb a.act 0x31 n.0.0.0.0.0.0.1, ne_eqb a.act 0x32 n.0.0.0.0.0.1, ne_eqb a.act 0x33 n.0.0.0.0.1, ne_eqb a.act 0x34 n.0.0.0.1, ne_eqb a.act 0x35 n.0.0.1, ne_eqb a.act 0x36 n.0.1, ne_eqb a.act 0x37 n.1)
