use Rattle.port_values.specs.of_build_draft.Draft.{Draft}
use Rattle.port_values.specs.Codes.{numbers, number_at}
use Rattle.port_values.specs.of_build_draft.Calls.{set_number}
use Rattle.port_values.specs.of_build_draft.declared.NumberField.{NumberField}
use Rattle.port_c.proofs.Building.{passed, stopped, known, unknown}
use Rattle.port_c.proofs.setting.kerzhoma_set_number.Goals as goal

pub returns-then-field-ge-NUMBERS : goal.returns-then-field-ge-NUMBERS
returns-then-field-ge-NUMBERS c =
    let if1 = c.if-field-ge-NUMBERS in
    let not-built = c.not_built in
    let a = c.args in
    let d : Draft = record { builder = a.b; words = a.records.now; text = a.text.now } in
    let both = stopped a.records.now a.text.now (unknown numbers a.field (set_number (number_at a.field) a.n d) if1.true) (not-built.ensures.value, (not-built.ensures.records_after, not-built.ensures.text_after)) in record { value = both.0; records_after = both.1.0; text_after = both.1.1 }

pub returns : goal.returns
returns c =
    let if1 = c.if-field-ge-NUMBERS in
    let number-at = c.number_at in
    let set-number = c.set_number in
    let a = c.args in
    let d : Draft = record { builder = a.b; words = a.records.now; text = a.text.now } in
    let both = passed a.records.now a.text.now (known numbers a.field (λ (x : NumberField). set_number x a.n d) number-at.ensures if1.false) c.built.ensures (set-number.ensures.value, (set-number.ensures.records_after, set-number.ensures.text_after)) in record { value = both.0; records_after = both.1.0; text_after = both.1.1 }
