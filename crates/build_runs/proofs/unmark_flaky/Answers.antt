use mathlib.Core.Path.{◌∙◌}
use Rattle.build_runs.proofs.Flaky.{unmark-fits, unmark-put, unmark-none}
use Rattle.build_runs.proofs.unmark_flaky.Goals as goal

pub overflow_sub-bits : goal.overflow_sub-bits
overflow_sub-bits c =
    let args = c.args in
    let has-bit = c.has_bit in
    unmark-fits args.r.now has-bit.ensures c.if-has_bit.true c.field-bits.ensures

pub returns-then-has_bit : goal.returns-then-has_bit
returns-then-has_bit c =
    let args = c.args in
    let has-bit = c.has_bit in
    let if1 = c.if-has_bit in
    let field = c.field-bits in
    c.put_field.ensures ∙ unmark-put args.r.now has-bit.ensures if1.true field.ensures

pub returns-else-has_bit : goal.returns-else-has_bit
returns-else-has_bit c =
    let args = c.args in
    unmark-none args.r.now c.has_bit.ensures c.if-has_bit.false
