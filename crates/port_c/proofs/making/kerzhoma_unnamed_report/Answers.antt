use Rattle.port_values.specs.Values.{port_built}
use mathlib.Core.Path.{ap, ◌∙◌}
use Rattle.port_c.proofs.making.kerzhoma_unnamed_report.Goals as goal

pub returns : goal.returns
returns c =
    let unnamed-report = c.unnamed_report in
    record { value = c.built.ensures ∙ ap port_built unnamed-report.ensures.value; records_after = unnamed-report.ensures.records_after; text_after = unnamed-report.ensures.text_after }
