use mathlib.Core.Path.{◌∙◌}
use Rattle.tree_slots.proofs.Presence.{slot-present, slot-absent, zero-part}
use Rattle.tree_slots.proofs.text_slot.Goals as goal

pub returns-then-has_bit : goal.returns-then-has_bit
returns-then-has_bit c = slot-present _ c.has_bit.ensures c.if-has_bit.true c.is_text.ensures

pub returns : goal.returns
returns c =
    let args = c.args in
    slot-absent _ c.has_bit.ensures c.if-has_bit.false (c.is_zero.ensures ∙ zero-part args.r.now args.o 2)
