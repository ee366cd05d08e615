use mathlib.Core.Path.{refl}
use Rattle.tree_slots.proofs.Presence.{slot-present, slot-absent}
use Rattle.tree_moments.proofs.time_slot.Goals as goal

pub returns-then-has_bit : goal.returns-then-has_bit
returns-then-has_bit c = slot-present _ c.has_bit.ensures c.if-has_bit.true refl

pub returns : goal.returns
returns c = slot-absent _ c.has_bit.ensures c.if-has_bit.false c.is_zero.ensures
