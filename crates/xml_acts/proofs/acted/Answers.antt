use Rattle.xml_part.specs.of_xml_state.inside.Acts.{acted_of}
use Rattle.xml_part.specs.of_xml_state.declared.Step.TheVariants.{Go}
use borrow.Author.Tests.{ne_eqb}
use mathlib.Core.Path.{refl, ap}
use Rattle.xml_acts.proofs.acted.Goals as goal

pub returns-in-45 : goal.returns-in-45
unfolding acted_of
returns-in-45 c = rw c.in-45.is refl

pub returns-in-120 : goal.returns-in-120
unfolding acted_of
returns-in-120 c = rw c.in-120.is c.wanted.ensures

pub returns-in-119 : goal.returns-in-119
unfolding acted_of
returns-in-119 c = rw c.in-119.is c.further.ensures

pub returns-in-108 : goal.returns-in-108
unfolding acted_of
returns-in-108 c = rw c.in-108.is c.spelled.ensures

pub returns-in-104 : goal.returns-in-104
unfolding acted_of
returns-in-104 c = rw c.in-104.is (ap Go c.marked.ensures)

pub returns-in-109 : goal.returns-in-109
unfolding acted_of
returns-in-109 c = rw c.in-109.is (ap Go c.marked-in-109.ensures)

pub returns-in-110 : goal.returns-in-110
unfolding acted_of
returns-in-110 c = rw c.in-110.is (ap Go c.named.ensures)

pub returns-in-107 : goal.returns-in-107
unfolding acted_of
returns-in-107 c = rw c.in-107.is (ap Go c.keyed.ensures)

pub returns-in-113 : goal.returns-in-113
unfolding acted_of
returns-in-113 c = rw c.in-113.is (ap Go c.quoted.ensures)

pub returns-in-99 : goal.returns-in-99
unfolding acted_of
returns-in-99 c = rw c.in-99.is (ap Go c.closing.ensures)

pub returns-in_default : goal.returns-in_default
unfolding acted_of
returns-in_default c =
    let p₁ = c in
    let a = p₁.args in
    let n = c.in_default.in_default-own.rest in
    rw (ne_eqb a.m.act 0x2D n.0.0.0.0.0.0.0.0.0.1, ne_eqb a.m.act 0x78 n.0.0.0.0.0.0.0.0.1, ne_eqb a.m.act 0x77 n.0.0.0.0.0.0.0.1, ne_eqb a.m.act 0x6C n.0.0.0.0.0.0.1, ne_eqb a.m.act 0x68 n.0.0.0.0.0.1, ne_eqb a.m.act 0x6D n.0.0.0.0.1, ne_eqb a.m.act 0x6E n.0.0.0.1, ne_eqb a.m.act 0x6B n.0.0.1, ne_eqb a.m.act 0x71 n.0.1, ne_eqb a.m.act 0x63 n.1) (ap Go c.opened.ensures)
