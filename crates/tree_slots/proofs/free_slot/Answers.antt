use mathlib.Core.Bool.{true}
use mathlib.Core.Path.{refl, ◌∙◌}
use Rattle.tree_slots.proofs.Presence.{slot-present, slot-absent, zero-part}
use Rattle.tree_slots.proofs.free_slot.Goals as goal

pub returns-then-has_bit : goal.returns-then-has_bit
returns-then-has_bit c = slot-present _ c.has_bit.ensures c.if-has_bit.true refl

pub returns : goal.returns
returns c =
    let args = c.args in
    slot-absent true c.has_bit.ensures c.if-has_bit.false (c.is_zero.ensures ∙ zero-part args.r.now args.o args.n)
