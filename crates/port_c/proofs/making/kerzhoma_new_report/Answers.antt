use Rattle.port_values.specs.Values.{port_built}
use mathlib.Core.Path.{ap, ◌∙◌}
use Rattle.port_c.proofs.making.kerzhoma_new_report.Goals as goal

pub returns : goal.returns
returns c =
    let new-report = c.new_report in
    record { value = c.built.ensures ∙ ap port_built new-report.ensures.value; records_after = new-report.ensures.records_after; text_after = new-report.ensures.text_after }
