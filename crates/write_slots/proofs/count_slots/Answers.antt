use mathlib.Core.Path.{sym, ◌∙◌}
use native.Mathlib.Omega.{arith}
use Rattle.write_slots.proofs.Counting.{counting-start, counting-done, counting_more, counting-pass}
use Rattle.write_slots.proofs.count_slots.Goals.{then-is_present, else-is_present}
use Rattle.write_slots.proofs.count_slots.Goals as goal

pub loop-code-init : goal.loop-code-init
loop-code-init c = counting-start _ _

pub overflow_add-n : goal.overflow_add-n
overflow_add-n c = omega (arith, c.loop-code.invariant.most)

pub loop-code-preserved : goal.loop-code-preserved
loop-code-preserved c =
    let loop = c.loop-code in
    elim c.if-is_present.branch [
      | then-is_present w ↦ rw w.n-is (counting_more _ _ loop.invariant c.loop-code-test.true (sym c.is_present.ensures ∙ w.if-is_present.true))
      | else-is_present w ↦ rw w.n-is (counting-pass _ _ loop.invariant c.loop-code-test.true (sym c.is_present.ensures ∙ w.if-is_present.false))
    ]

pub returns : goal.returns
returns c = record { value = counting-done _ _ c.loop-code.invariant c.loop-code-test.false; upper_bound = omega (arith, c.loop-code.invariant.most, c.loop-code.invariant.fits) }
