use Rattle.write_status.proofs.Events.{not-described, described-indented, described-alone}
use Rattle.write_marks.proofs.of_write_table.Writing.{then, said, wrote_nothing}
use mathlib.Core.Path.{sym, ◌∙◌}
use Rattle.write_run.proofs.put_description.Goals as goal

pub returns-then-not-has_bit : goal.returns-then-not-has_bit
returns-then-not-has_bit c =
    let args = c.args in
    λ at. said (wrote_nothing _) (not-described args.text.now args.r.now (sym c.has_bit.ensures ∙ c.if-not-has_bit.true))

pub returns-then-has_bit : goal.returns-then-has_bit
returns-then-has_bit c =
    let at-has-bit = c in
    let args = at-has-bit.args in
    let if1 = c.if-not-has_bit in
    let put-text = c.put_text-inner in
    let has-bit2 = c.has_bit-2 in
    let has-bit3 = c.has_bit-3 in
    let has-bit4 = c.has_bit-4 in
    let if2 = c.if-has_bit in
    let put-bare = c.put_bare in
    λ at. said (then (put-text.ensures at) (put-bare.ensures at)) (described-indented args.text.now args.r.now
    (sym at-has-bit.has_bit.ensures ∙ if1.false) (rw (has-bit2.ensures, has-bit3.ensures, has-bit4.ensures) at if2.true))

pub returns : goal.returns
returns c =
    let args = c.args in
    let has-bit = c.has_bit in
    let if1 = c.if-not-has_bit in
    let put-text = c.put_text-inner in
    λ at. said (put-text.ensures at) (described-alone args.text.now args.r.now (sym has-bit.ensures ∙ if1.false)
    (rw (c.has_bit-2.ensures, c.has_bit-3.ensures, c.has_bit-4.ensures) at c.if-has_bit.false))
