use Rattle.build_draft.proofs.Steps.{handed-on, then-refused, then-done}
use Rattle.build_draft.specs.Parts.{naming}
use mathlib.Core.Path.{refl, ap, ◌∙◌}
use Rattle.build_text.proofs.put_name.Goals as goal

pub returns-in_err-b : goal.returns-in_err-b
returns-in_err-b c =
    let a = c.args in
    rw (handed-on c.from_residual.result a.step c.from_residual.ensures.1 c.in_err-b.was)
    (then-refused a.step a.records.now a.text.now (naming a.name.now) a.records.now a.text.now c.in_err-b.was refl)

pub returns : goal.returns
unfolding naming
returns c =
    let a = c.args in
    c.put_at.ensures ∙ rw c.last_of.ensures (then-done a.step a.records.now a.text.now (naming a.name.now) c.in_ok-b.was refl)
