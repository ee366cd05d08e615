use Rattle.xml_state.specs.inside.Puts.{room_for}
use Rattle.xml_checks.proofs.has_room.Goals as goal

pub returns : goal.returns
unfolding room_for
returns c = simp (c.wide.ensures, c.wide-2.ensures)
