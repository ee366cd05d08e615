use Rattle.xml_write.proofs.Rooms.{room_small}
use Rattle.xml_acts.specs.of_xml_state.inside.Puts.{putting, act_start}
use native.Mathlib.Omega.{arith}
use mathlib.Core.Path.{sym, ◌∙◌}
use Rattle.xml_put.proofs.act_start.Goals as goal

pub overflow_add-st : goal.overflow_add-st
overflow_add-st c = omega (arith, room_small _ _ (sym c.has_room.ensures ∙ c.if-has_room.true))

pub returns-then-has_room : goal.returns-then-has_room
unfolding act_start
returns-then-has_room c =
    let settled = c.settled in
    rw settled.ensures at c.put_tag.ensures

pub returns : goal.returns
unfolding act_start putting
returns c = simp (sym c.has_room.ensures ∙ c.if-has_room.false)
