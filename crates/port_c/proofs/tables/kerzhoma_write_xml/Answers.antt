use Rattle.port_c.specs.Answers.{port_document}
use Rattle.port_values.specs.of_port_refusal.declared.KRefusal.{KRefusal}
use mathlib.Core.Path.{ap, ◌∙◌}
use Rattle.port_c.proofs.tables.kerzhoma_write_xml.Goals as goal

pub returns : goal.returns
returns c =
    let write-xml = c.write_xml-answer in
    record { value = ap (λ (k : KRefusal). record { length = write-xml.result.length; refusal = k }) c.from_refusal.ensures ∙ ap port_document write-xml.ensures.value; out_after = write-xml.ensures.out_after }
