use Rattle.build_elements.proofs.of_build_draft.Settling.{ends}
use Rattle.builder.proofs.Ending.{of-kind}
use Rattle.build_elements.specs.of_build_draft.Calls.{add_extra}
use Rattle.builder.proofs.add_extra.Goals as goal

pub returns : goal.returns
unfolding add_extra
returns c =
    let a = c.args in
    let both = ends a.records.now a.text.now c.add_pair-step.result c.add_pair-step.new.records c.add_pair-step.new.text
    (of-kind a.key.now a.value.now (record { builder = a.b; words = a.records.now; text = a.text.now }) c.add_pair-step.ensures c.extra_kind.ensures)
    c.add_pair-step.auto.records c.add_pair-step.auto.text
    (c.settle.ensures.value, (c.settle.ensures.records_after, c.settle.ensures.text_after)) in record { value = both.0; records_after = both.1.0; text_after = both.1.1 }
