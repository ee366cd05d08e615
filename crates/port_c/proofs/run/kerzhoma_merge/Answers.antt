use Rattle.port_values.specs.of_port_refusal.Port.{port_refusal}
use Rattle.merger.specs.declared.Merging.{Merging}
use mathlib.Core.Path.{ap, ◌∙◌}
use Rattle.port_c.proofs.run.kerzhoma_merge.Goals as goal

pub returns : goal.returns
returns c =
    let merge = c.merge-answer in
    record { value = c.from_refusal.ensures ∙ ap (λ (a : Merging). port_refusal a.verdict a.refusal) merge.ensures.value; records_after = merge.ensures.records_after; text_after = merge.ensures.text_after }
