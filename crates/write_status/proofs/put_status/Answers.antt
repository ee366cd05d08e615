use Rattle.write_status.proofs.Events.{status-described, status-empty}
use Rattle.write_marks.proofs.of_write_table.Writing.{then, said}
use mathlib.Core.Path.{sym, ◌∙◌}
use Rattle.write_status.proofs.put_status.Goals as goal

pub returns-then-has_bit : goal.returns-then-has_bit
returns-then-has_bit c =
    let at-put-text = c in
    let at-put-element = at-put-text in
    let at-if1 = at-put-element in
    let at-has-bit = at-if1 in
    let args = at-has-bit.args in
    let put-tag = c.put_tag in
    said (then at-put-element.put_element-opened.ensures (then (at-put-text.put_text-inner.ensures _) (put-tag.ensures _)))
    (status-described args.text.now args.r.now _ (sym at-has-bit.has_bit.ensures ∙ at-if1.if-has_bit.true))

pub returns : goal.returns
returns c =
    let args = c.args in
    let has-bit = c.has_bit in
    let if1 = c.if-has_bit in
    let put-element2 = c.put_element in
    said put-element2.ensures (status-empty args.text.now args.r.now _ (sym has-bit.ensures ∙ if1.false))
