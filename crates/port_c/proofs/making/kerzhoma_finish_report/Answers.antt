use Rattle.port_values.specs.Values.{port_built}
use mathlib.Core.Path.{ap, ◌∙◌}
use Rattle.port_c.proofs.making.kerzhoma_finish_report.Goals as goal

pub returns : goal.returns
returns c =
    let finish-report = c.finish_report in
    record { value = c.built.ensures ∙ ap port_built finish-report.ensures.value; records_after = finish-report.ensures.records_after; text_after = finish-report.ensures.text_after }
