use Rattle.port_values.specs.of_build_draft.Draft.{Draft}
use Rattle.port_values.specs.of_build_draft.Calls.{set_uuid}
use Rattle.explain.specs.of_uuids.declared.Words.{Words}
use Rattle.port_c.proofs.Building.{passed}
use mathlib.Core.Path.{ap}
use Rattle.port_c.proofs.setting.kerzhoma_set_uuid.Goals as goal

pub returns : goal.returns
returns c =
    let plain-uuid = c.plain_uuid in
    let set-uuid = c.set_uuid in
    let a = c.args in
    let d : Draft = record { builder = a.b; words = a.records.now; text = a.text.now } in
    let both = passed a.records.now a.text.now (ap (λ (w : Words). set_uuid w d) plain-uuid.ensures) c.built.ensures (set-uuid.ensures.value, (set-uuid.ensures.records_after, set-uuid.ensures.text_after)) in record { value = both.0; records_after = both.1.0; text_after = both.1.1 }
