use Rattle.port_values.specs.Values.{port_built}
use mathlib.Core.Path.{ap, ◌∙◌}
use Rattle.port_c.proofs.making.kerzhoma_add_test_suite.Goals as goal

pub returns : goal.returns
returns c =
    let add-test-suite = c.add_test_suite in
    record { value = c.built.ensures ∙ ap port_built add-test-suite.ensures.value; records_after = add-test-suite.ensures.records_after; text_after = add-test-suite.ensures.text_after }
