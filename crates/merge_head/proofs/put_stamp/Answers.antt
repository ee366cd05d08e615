use Rattle.merge_head.specs.inside.Head.{put_stamp}
use mathlib.Core.Path.{refl, sym, ◌∙◌}
use Rattle.merge_head.proofs.put_stamp.Goals as goal

pub returns-then-has_bit : goal.returns-then-has_bit
unfolding put_stamp
returns-then-has_bit c =
    let has-bit = c.has_bit in
    let if1 = c.if-has_bit in
    rw (sym has-bit.ensures ∙ if1.true) (rw c.moment_of.ensures at c.put_moment.ensures)

pub returns-else-has_bit : goal.returns-else-has_bit
unfolding put_stamp
returns-else-has_bit c = rw (sym c.has_bit.ensures ∙ c.if-has_bit.false) refl
