use Rattle.build_draft.specs.Draft.{draft_of}
use Rattle.port_values.specs.Values.{port_built}
use mathlib.Core.Path.{ap, ◌∙◌}
use Rattle.port_values.proofs.not_built.Goals as goal

pub returns : goal.returns
unfolding draft_of
returns c =
    let settle = c.settle-answer in
    record { value = c.built.ensures ∙ ap port_built settle.ensures.value; records_after = settle.ensures.records_after; text_after = settle.ensures.text_after }
