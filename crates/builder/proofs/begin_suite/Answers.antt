use Rattle.build_elements.specs.of_refusal.Refusal.{Outcome}
use Rattle.build_elements.specs.of_build_draft.Draft.{Draft, next}
use Rattle.build_elements.specs.of_build_draft.Calls.{add_test_suite}
use Rattle.build_elements.specs.of_build_draft.Parts.{naming}
use mathlib.Core.Path.{ap, ◌∙◌}
use Rattle.builder.proofs.begin_suite.Goals as goal

pub returns : goal.returns
unfolding add_test_suite
returns c =
    let p = c.open_suite-step in
    c.put_name.ensures ∙ ap (λ (o : Outcome Draft). next o (naming c.args.name.now)) (p.ensures c.args.text.now)
