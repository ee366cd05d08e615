use Rattle.port_c.specs.Answers.{port_listing}
use Rattle.port_values.specs.of_port_refusal.declared.KRefusal.{KRefusal}
use mathlib.Core.Path.{ap, ◌∙◌}
use Rattle.port_c.proofs.tables.kerzhoma_read_and_list.Goals as goal

pub returns : goal.returns
returns c =
    let once = c.read_and_list-answer in
    record { answer = ap (λ (k : KRefusal). record { length = once.result.length; refusal = k }) c.from_refusal.ensures ∙ ap port_listing once.ensures.answer; out = once.ensures.out; records = once.ensures.records; text = once.ensures.text; scratch = once.ensures.scratch }
