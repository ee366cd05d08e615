use Rattle.port_c.specs.Answers.{port_writing}
use Rattle.port_values.specs.of_port_refusal.declared.KRefusal.{KRefusal}
use mathlib.Core.Path.{ap, ◌∙◌}
use Rattle.port_c.proofs.tables.kerzhoma_rehearse.Goals as goal

pub returns : goal.returns
returns c = let a = c.rehearse-answer in record { value = ap (λ (k : KRefusal). record { events = a.result.events; attributes = a.result.attributes; bytes = a.result.bytes; refusal = k }) c.from_refusal.ensures ∙ ap port_writing a.ensures.value; events_after = a.ensures.events_after; attributes_after = a.ensures.attributes_after; bytes_after = a.ensures.bytes_after }
