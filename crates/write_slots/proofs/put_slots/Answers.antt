use mathlib.Core.Path.{sym, ◌∙◌}
use Rattle.write_entries.proofs.of_write_table.Writing.{coming-start}
use Rattle.write_slots.proofs.Counting.{slots-done, slots-put, slots-pass}
use Rattle.write_slots.proofs.put_slots.Goals.{then-is_present, else-is_present}
use Rattle.write_slots.proofs.put_slots.Goals as goal

pub loop-code-init : goal.loop-code-init
loop-code-init c = λ ev. coming-start _ _

pub loop-code-preserved : goal.loop-code-preserved
loop-code-preserved c =
    let loop = c.loop-code in
    elim c.if-is_present.branch [
      | then-is_present w ↦ λ ev. rw (w.mark-is, w.attributes-is, w.bytes-is)
          (slots-put _ _ _ (loop.invariant ev) c.loop-code-test.true (sym c.is_present.ensures ∙ w.if-is_present.true) (w.put_attribute-mark.ensures ev))
      | else-is_present w ↦ λ ev. rw (w.mark-is, w.attributes-is, w.bytes-is)
          (slots-pass _ _ _ (loop.invariant ev) c.loop-code-test.true (sym c.is_present.ensures ∙ w.if-is_present.false))
    ]

pub returns : goal.returns
returns c = λ ev. slots-done _ _ _ (c.loop-code.invariant ev) c.loop-code-test.false
