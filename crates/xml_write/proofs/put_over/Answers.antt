use Rattle.xml_write.proofs.Rooms.{room_small}
use Rattle.xml_checks.specs.of_xml_state.inside.Puts.{putting}
use mathlib.Core.Path.{sym, ◌∙◌}
use Rattle.xml_write.proofs.put_over.Goals as goal

pub counted-requires : goal.counted-requires
counted-requires c =
    let has_room = c.has_room in
    let if1 = c.if-has_room in
    room_small _ _ (sym has_room.ensures ∙ if1.true)

pub returns-then-has_room : goal.returns-then-has_room
unfolding putting
returns-then-has_room c =
    let less = c.less-size in
    let has_room = c.has_room in
    let if1 = c.if-has_room in
    let unless0 = c.unless0 in
    simp (sym has_room.ensures ∙ if1.true, c.put_record.ensures, c.counted.ensures, unless0.ensures, less.ensures)

pub returns : goal.returns
unfolding putting
returns c = simp (sym c.has_room.ensures ∙ c.if-has_room.false)
