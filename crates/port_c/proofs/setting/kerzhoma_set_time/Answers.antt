use Rattle.port_values.specs.of_build_draft.Draft.{Draft}
use Rattle.port_values.specs.Codes.{elements, element_at}
use Rattle.port_values.specs.of_build_draft.Calls.{set_time}
use Rattle.port_values.specs.of_build_draft.declared.Element.{Element}
use Rattle.port_c.proofs.Building.{passed, stopped, known, unknown}
use Rattle.port_c.proofs.setting.kerzhoma_set_time.Goals as goal

pub returns-then-element-ge-ELEMENTS : goal.returns-then-element-ge-ELEMENTS
returns-then-element-ge-ELEMENTS c =
    let if1 = c.if-element-ge-ELEMENTS in
    let not-built = c.not_built in
    let a = c.args in
    let d : Draft = record { builder = a.b; words = a.records.now; text = a.text.now } in
    let both = stopped a.records.now a.text.now (unknown elements a.element (set_time (element_at a.element) a.seconds a.nanos d) if1.true) (not-built.ensures.value, (not-built.ensures.records_after, not-built.ensures.text_after)) in record { value = both.0; records_after = both.1.0; text_after = both.1.1 }

pub returns : goal.returns
returns c =
    let if1 = c.if-element-ge-ELEMENTS in
    let element-at = c.element_at in
    let set-time = c.set_time in
    let a = c.args in
    let d : Draft = record { builder = a.b; words = a.records.now; text = a.text.now } in
    let both = passed a.records.now a.text.now (known elements a.element (λ (x : Element). set_time x a.seconds a.nanos d) element-at.ensures if1.false)
    c.built.ensures (set-time.ensures.value, (set-time.ensures.records_after, set-time.ensures.text_after)) in record { value = both.0; records_after = both.1.0; text_after = both.1.1 }
