use Rattle.port_values.specs.of_build_draft.Draft.{Draft}
use Rattle.port_values.specs.Codes.{holders, holder_at}
use Rattle.port_values.specs.of_build_draft.Calls.{add_property}
use Rattle.port_values.specs.of_build_draft.declared.Holder.{Holder}
use Rattle.port_c.proofs.Building.{passed, stopped, known, unknown}
use Rattle.port_c.proofs.making.kerzhoma_add_property.Goals as goal

pub returns-then-holder-ge-HOLDERS : goal.returns-then-holder-ge-HOLDERS
returns-then-holder-ge-HOLDERS c =
    let if1 = c.if-holder-ge-HOLDERS in
    let not-built = c.not_built in
    let a = c.args in
    let d : Draft = record { builder = a.b; words = a.records.now; text = a.text.now } in
    let both = stopped a.records.now a.text.now (unknown holders a.holder (add_property (holder_at a.holder) a.name.now a.value.now d) if1.true) (not-built.ensures.value, (not-built.ensures.records_after, not-built.ensures.text_after)) in record { value = both.0; records_after = both.1.0; text_after = both.1.1 }

pub returns : goal.returns
returns c =
    let if1 = c.if-holder-ge-HOLDERS in
    let holder-at = c.holder_at in
    let add-property = c.add_property in
    let a = c.args in
    let d : Draft = record { builder = a.b; words = a.records.now; text = a.text.now } in
    let both = passed a.records.now a.text.now (known holders a.holder (λ (x : Holder). add_property x a.name.now a.value.now d) holder-at.ensures if1.false)
    c.built.ensures (add-property.ensures.value, (add-property.ensures.records_after, add-property.ensures.text_after)) in record { value = both.0; records_after = both.1.0; text_after = both.1.1 }
