use Rattle.write_status.proofs.Events.{optional-yes, optional-no}
use Rattle.write_marks.specs.of_write_items.inside.Values.{tag_name}
use Rattle.write_marks.specs.of_write_report.Written.{serialize_output}
use Rattle.write_marks.proofs.of_write_table.Writing.{said, wrote_nothing}
use mathlib.Core.Path.{sym, ◌∙◌}
use Rattle.write_status.proofs.put_optional.Goals as goal

pub returns-then-has_bit : goal.returns-then-has_bit
returns-then-has_bit c =
    let args = c.args in
    let has-bit = c.has_bit in
    let if1 = c.if-has_bit in
    let put-output = c.put_output in
    λ at. said (put-output.ensures at) (optional-yes (serialize_output (tag_name args.code)) _ _ (sym has-bit.ensures ∙ if1.true))

pub returns : goal.returns
returns c =
    let args = c.args in
    λ at. said (wrote_nothing _) (optional-no (serialize_output (tag_name args.code)) _ _ (sym c.has_bit.ensures ∙ c.if-has_bit.false))
