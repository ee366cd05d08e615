use mathlib.Core.Path.{sym, ◌∙◌}
use Rattle.list_text.proofs.Putting.{more}
use Rattle.list_values.proofs.put_time.Goals as goal

pub returns-then-has_bit : goal.returns-then-has_bit
returns-then-has_bit c =
    let has-bit = c.has_bit in
    let if1 = c.if-has_bit in
    let put = c.put-space in
    let field = c.field in
    rw (sym has-bit.ensures ∙ if1.true) (more put.ensures (rw (field.ensures, c.field-then-has_bit.ensures) at c.put_time.ensures))

pub returns : goal.returns
returns c =
    let has-bit = c.has_bit in
    let if1 = c.if-has_bit in
    rw (sym has-bit.ensures ∙ if1.false) c.put.ensures
