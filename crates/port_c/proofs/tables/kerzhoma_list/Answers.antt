use Rattle.port_c.specs.Answers.{port_listing}
use Rattle.port_values.specs.of_port_refusal.declared.KRefusal.{KRefusal}
use mathlib.Core.Path.{ap, ◌∙◌}
use Rattle.port_c.proofs.tables.kerzhoma_list.Goals as goal

pub returns : goal.returns
returns c =
    let list = c.list-answer in
    record { value = ap (λ (k : KRefusal). record { length = list.result.length; refusal = k }) c.from_refusal.ensures ∙ ap port_listing list.ensures.value; out_after = list.ensures.out_after }
