use Rattle.port_values.specs.Values.{port_counted}
use mathlib.Core.Path.{ap, ◌∙◌}
use Rattle.port_c.proofs.counts.kerzhoma_add_suite.Goals as goal

pub returns : goal.returns
returns c = c.counted.ensures ∙ ap port_counted c.add_test_suite.ensures
