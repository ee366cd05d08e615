use Rattle.merge_head.specs.inside.Head.{put_total}
use mathlib.Core.Bool.{◌||◌}
use mathlib.Core.Path.{refl, sym, ap₂, ◌∙◌}
use Rattle.merge_head.proofs.put_total.Goals as goal

pub returns-then-has_bit : goal.returns-then-has_bit
unfolding put_total
returns-then-has_bit c =
    let has-bit = c.has_bit in
    let has-bit2 = c.has_bit-2 in
    let if1 = c.if-has_bit in
    rw (sym (ap₂ ◌||◌ has-bit.ensures has-bit2.ensures) ∙ if1.true) c.put_time.ensures

pub returns-else-has_bit : goal.returns-else-has_bit
unfolding put_total
returns-else-has_bit c = rw (sym (ap₂ ◌||◌ c.has_bit.ensures c.has_bit-2.ensures) ∙ c.if-has_bit.false) refl
