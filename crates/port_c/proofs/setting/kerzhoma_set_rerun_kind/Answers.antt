use Rattle.port_values.specs.of_build_draft.Draft.{Draft}
use Rattle.port_values.specs.Codes.{families, family_at}
use Rattle.port_values.specs.of_build_draft.Calls.{set_rerun_kind}
use Rattle.port_values.specs.of_build_draft.declared.FlakyOrRerun.{FlakyOrRerun}
use Rattle.port_c.proofs.Building.{passed, stopped, tested-known, tested_unknown}
use Rattle.port_c.proofs.setting.kerzhoma_set_rerun_kind.Goals as goal

pub returns-then-not-is_family : goal.returns-then-not-is_family
returns-then-not-is_family c =
    let if1 = c.if-not-is_family in
    let is-family = c.is_family in
    let not-built = c.not_built in
    let a = c.args in
    let d : Draft = record { builder = a.b; words = a.records.now; text = a.text.now } in
    let both = stopped a.records.now a.text.now
    (tested_unknown families a.family (set_rerun_kind (family_at a.family) d) is-family.ensures (if1.true)) (not-built.ensures.value, (not-built.ensures.records_after, not-built.ensures.text_after)) in record { value = both.0; records_after = both.1.0; text_after = both.1.1 }

pub returns : goal.returns
returns c =
    let if1 = c.if-not-is_family in
    let is-family = c.is_family in
    let family-at = c.family_at in
    let set-rerun-kind = c.set_rerun_kind in
    let a = c.args in
    let d : Draft = record { builder = a.b; words = a.records.now; text = a.text.now } in
    let both = passed a.records.now a.text.now (tested-known families a.family (λ (x : FlakyOrRerun). set_rerun_kind x d) family-at.ensures
    is-family.ensures (if1.false)) c.built.ensures (set-rerun-kind.ensures.value, (set-rerun-kind.ensures.records_after, set-rerun-kind.ensures.text_after)) in record { value = both.0; records_after = both.1.0; text_after = both.1.1 }
