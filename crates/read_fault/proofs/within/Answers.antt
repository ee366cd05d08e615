use Prim.Native.Nat.{ℕ}
use mathlib.Core.Path.{refl, ap, ◌∙◌}
use Rattle.read_extra_record.specs.of_refusal.declared.PathElement.{PathElement}
use Rattle.read_extra_record.specs.of_refusal.Refusal.{nowhere, longer}
use Rattle.read_extra_record.specs.of_read_element.Outcome.{element}
use Rattle.read_fault.proofs.Faults.{with-key}
use Rattle.read_fault.proofs.within.Goals as goal

pub returns-then-key-eq0 : goal.returns-then-key-eq0
returns-then-key-eq0 c = rw c.if-key-eq0.true refl

pub returns : goal.returns
returns c =
    let a = c.args in
    c.with.ensures
    ∙ ap (λ (x : PathElement). longer a.path x) (c.element_of.ensures ∙ ap (λ (n : ℕ). element 16 n nowhere) c.attribute_of.ensures)
    ∙ with-key a.path a.key c.if-key-eq0.false
