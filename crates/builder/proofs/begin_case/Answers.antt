use Rattle.build_elements.specs.of_refusal.Refusal.{Outcome}
use Rattle.build_elements.specs.of_build_draft.Draft.{Draft, next}
use Rattle.build_elements.specs.of_build_draft.Calls.{open_main, add_test_case}
use Rattle.build_elements.specs.of_build_draft.Parts.{naming}
use mathlib.Core.Path.{ap, ◌∙◌}
use Rattle.builder.proofs.begin_case.Goals as goal

pub returns : goal.returns
unfolding add_test_case
returns c =
    let a = c.args in
    let q = c.put_name-named in
    c.open_main.ensures q.new.text
    ∙ ap (λ (o : Outcome Draft). next o (open_main a.outcome)) (q.ensures ∙ ap (λ (o : Outcome Draft). next o (naming a.name.now)) (c.open_case-step.ensures a.text.now))
