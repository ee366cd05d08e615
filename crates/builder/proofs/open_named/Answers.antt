use Rattle.build_elements.specs.of_refusal.Refusal.{Outcome}
use Rattle.build_elements.specs.of_build_draft.Draft.{Draft, next}
use Rattle.build_elements.specs.of_build_draft.Calls.{new_report}
use Rattle.build_elements.specs.of_build_draft.Parts.{naming}
use mathlib.Core.Path.{ap, ◌∙◌}
use Rattle.builder.proofs.open_named.Goals as goal

pub returns : goal.returns
unfolding new_report
returns c =
    let p = c.open_report-step in
    c.put_name.ensures ∙ ap (λ (o : Outcome Draft). next o (naming c.args.name.now)) (p.ensures)
