use mathlib.Core.Path.{sym, ◌∙◌}
use Rattle.list_values.proofs.put_disabled.Goals as goal

pub returns-then-has_bit : goal.returns-then-has_bit
returns-then-has_bit c =
    let has-bit = c.has_bit in
    let if1 = c.if-has_bit in
    rw (sym has-bit.ensures ∙ if1.true) c.put_count.ensures

pub returns : goal.returns
returns c =
    let has-bit = c.has_bit in
    let if1 = c.if-has_bit in
    rw (sym has-bit.ensures ∙ if1.false) c.put.ensures
