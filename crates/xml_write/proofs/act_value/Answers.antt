use Rattle.xml_write.proofs.Rooms.{room_small}
use Rattle.xml_checks.specs.of_xml_state.inside.Puts.{act_value}
use native.Mathlib.Omega.{arith}
use mathlib.Core.Path.{sym, ◌∙◌}
use Rattle.xml_write.proofs.act_value.Goals as goal

pub overflow_add-s : goal.overflow_add-s
overflow_add-s c =
    let has_room = c.has_room in
    let if1 = c.if-has_room in
    omega (arith, room_small _ _ (sym has_room.ensures ∙ if1.true))

pub returns-then-has_room : goal.returns-then-has_room
unfolding act_value
returns-then-has_room c =
    let less = c.less-size in
    let has_room = c.has_room in
    let if1 = c.if-has_room in
    simp (sym has_room.ensures ∙ if1.true, c.put_record.ensures, c.unless0.ensures, less.ensures)

pub returns : goal.returns
unfolding act_value
returns c = simp (sym c.has_room.ensures ∙ c.if-has_room.false)
