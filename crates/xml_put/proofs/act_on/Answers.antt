use Rattle.xml_acts.specs.of_xml_state.inside.Puts.{act_on}
use borrow.Author.Tests.{ne_eqb}
use Rattle.xml_put.proofs.act_on.Goals as goal

pub returns-in-116 : goal.returns-in-116
unfolding act_on
returns-in-116 c =
    simp (c.in-116.is, ← c.act_text.ensures)

pub returns-in-103 : goal.returns-in-103
unfolding act_on
returns-in-103 c =
    let named = c.named in
    simp (c.in-103.is, ← named.ensures, ← c.act_start.ensures)

pub returns-in-115 : goal.returns-in-115
unfolding act_on
returns-in-115 c =
    simp (c.in-115.is, ← c.act_start-in-115.ensures)

pub returns-in-101 : goal.returns-in-101
unfolding act_on
returns-in-101 c =
    simp (c.in-101.is, ← c.act_empty.ensures)

pub returns-in-122 : goal.returns-in-122
unfolding act_on
returns-in-122 c =
    simp (c.in-122.is, ← c.act_end.ensures)

pub returns-in-114 : goal.returns-in-114
unfolding act_on
returns-in-114 c =
    simp (c.in-114.is, ← c.act_ref.ensures)

pub returns-in-111 : goal.returns-in-111
unfolding act_on
returns-in-111 c =
    simp (c.in-111.is, ← c.act_between.ensures)

pub returns-in-112 : goal.returns-in-112
unfolding act_on
returns-in-112 c =
    simp (c.in-112.is, ← c.act_between-in-112.ensures)

pub returns-in-100 : goal.returns-in-100
unfolding act_on
returns-in-100 c =
    simp (c.in-100.is, ← c.act_between-in-100.ensures)

pub returns-in-118 : goal.returns-in-118
unfolding act_on
returns-in-118 c =
    simp (c.in-118.is, ← c.act_value.ensures)

pub returns-in_default : goal.returns-in_default
unfolding act_on
returns-in_default c = let r = c.in_default.in_default-own.rest in
    simp (
      ne_eqb _ _ r.1,
      ne_eqb _ _ r.0.1,
      ne_eqb _ _ r.0.0.1,
      ne_eqb _ _ r.0.0.0.1,
      ne_eqb _ _ r.0.0.0.0.1,
      ne_eqb _ _ r.0.0.0.0.0.1,
      ne_eqb _ _ r.0.0.0.0.0.0.1,
      ne_eqb _ _ r.0.0.0.0.0.0.0.1,
      ne_eqb _ _ r.0.0.0.0.0.0.0.0.1,
      ne_eqb _ _ r.0.0.0.0.0.0.0.0.0.1,
      c.acted.ensures,
    )
