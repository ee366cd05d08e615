use Rattle.merge_head.specs.inside.Head.{put_name}
use mathlib.Core.Path.{refl, sym, ◌∙◌}
use Rattle.merge_head.proofs.put_name.Goals as goal

pub returns-then-has_bit : goal.returns-then-has_bit
unfolding put_name
returns-then-has_bit c =
    let has-bit = c.has_bit in
    let if1 = c.if-has_bit in
    rw (sym has-bit.ensures ∙ if1.true) (rw c.field.ensures at c.put_text.ensures)

pub returns-else-has_bit : goal.returns-else-has_bit
unfolding put_name
returns-else-has_bit c = rw (sym c.has_bit.ensures ∙ c.if-has_bit.false) refl
