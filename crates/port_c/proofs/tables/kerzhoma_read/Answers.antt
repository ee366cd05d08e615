use Rattle.port_values.specs.of_port_refusal.Port.{port_refusal}
use Rattle.xml_call.specs.of_reader.declared.Reading.{Reading}
use mathlib.Core.Path.{ap, ◌∙◌}
use Rattle.port_c.proofs.tables.kerzhoma_read.Goals as goal

pub returns : goal.returns
returns c =
    let read = c.read-answer in
    record { value = c.from_refusal.ensures ∙ ap (λ (a : Reading). port_refusal a.verdict a.refusal) read.ensures.answer; records_after = read.ensures.records; text_after = read.ensures.text; scratch_after = read.ensures.scratch }
