use Rattle.port_values.specs.of_build_draft.Draft.{Draft}
use Rattle.port_values.specs.Codes.{coded, elements, element_at, fields, field_at}
use Rattle.port_values.specs.of_build_draft.Calls.{set_output_lossy}
use Rattle.port_values.specs.of_build_draft.declared.TextField.{TextField}
use Rattle.port_values.specs.of_build_draft.declared.Element.{Element}
use Rattle.port_c.proofs.Building.{passed, stopped, unknown, both-known, second-unknown}
use Rattle.port_c.proofs.setting.kerzhoma_set_output_lossy.Goals as goal

pub returns-then-element-ge-ELEMENTS : goal.returns-then-element-ge-ELEMENTS
returns-then-element-ge-ELEMENTS c =
    let if1 = c.if-element-ge-ELEMENTS in
    let not-built = c.not_built in
    let a = c.args in
    let d : Draft = record { builder = a.b; words = a.records.now; text = a.text.now } in
    let x = element_at a.element in
    let y = field_at a.field in
    let both = stopped a.records.now a.text.now (unknown elements a.element (coded fields a.field (set_output_lossy x y a.s.now d)) if1.true) (not-built.ensures.value, (not-built.ensures.records_after, not-built.ensures.text_after)) in record { value = both.0; records_after = both.1.0; text_after = both.1.1 }

pub returns-then-field-ge-FIELDS : goal.returns-then-field-ge-FIELDS
returns-then-field-ge-FIELDS c =
    let if1 = c.if-element-ge-ELEMENTS in
    let if2 = c.if-field-ge-FIELDS in
    let not-built2 = c.not_built-then-field-ge-FIELDS in
    let a = c.args in
    let d : Draft = record { builder = a.b; words = a.records.now; text = a.text.now } in
    let both = stopped a.records.now a.text.now (second-unknown elements a.element fields a.field (λ (x : Element) (y : TextField). set_output_lossy x y a.s.now d)
    (element_at a.element) (field_at a.field) if1.false if2.true) (not-built2.ensures.value, (not-built2.ensures.records_after, not-built2.ensures.text_after)) in record { value = both.0; records_after = both.1.0; text_after = both.1.1 }

pub returns : goal.returns
returns c =
    let if1 = c.if-element-ge-ELEMENTS in
    let if2 = c.if-field-ge-FIELDS in
    let element-at = c.element_at in
    let field_at = c.field_at in
    let set-output-lossy = c.set_output_lossy in
    let a = c.args in
    let d : Draft = record { builder = a.b; words = a.records.now; text = a.text.now } in
    let both = passed a.records.now a.text.now (both-known elements a.element fields a.field (λ (x : Element) (y : TextField). set_output_lossy x y a.s.now d)
    element-at.ensures field_at.ensures if1.false if2.false) c.built.ensures (set-output-lossy.ensures.value, (set-output-lossy.ensures.records_after, set-output-lossy.ensures.text_after)) in record { value = both.0; records_after = both.1.0; text_after = both.1.1 }
