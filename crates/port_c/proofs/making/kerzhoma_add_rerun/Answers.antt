use Rattle.port_values.specs.of_build_draft.Draft.{Draft}
use Rattle.port_values.specs.Codes.{kinds, kind_at}
use Rattle.port_values.specs.of_build_draft.Calls.{add_rerun}
use Rattle.port_values.specs.of_build_draft.declared.NonSuccessKind.{NonSuccessKind}
use Rattle.port_c.proofs.Building.{passed, stopped, known, unknown}
use Rattle.port_c.proofs.making.kerzhoma_add_rerun.Goals as goal

pub returns-then-kind-ge-KINDS : goal.returns-then-kind-ge-KINDS
returns-then-kind-ge-KINDS c =
    let if1 = c.if-kind-ge-KINDS in
    let not-built = c.not_built in
    let a = c.args in
    let d : Draft = record { builder = a.b; words = a.records.now; text = a.text.now } in
    let both = stopped a.records.now a.text.now (unknown kinds a.kind (add_rerun (kind_at a.kind) d) if1.true) (not-built.ensures.value, (not-built.ensures.records_after, not-built.ensures.text_after)) in record { value = both.0; records_after = both.1.0; text_after = both.1.1 }

pub returns : goal.returns
returns c =
    let if1 = c.if-kind-ge-KINDS in
    let kind-at = c.kind_at in
    let add-rerun = c.add_rerun in
    let a = c.args in
    let d : Draft = record { builder = a.b; words = a.records.now; text = a.text.now } in
    let both = passed a.records.now a.text.now (known kinds a.kind (λ (x : NonSuccessKind). add_rerun x d) kind-at.ensures if1.false) c.built.ensures (add-rerun.ensures.value, (add-rerun.ensures.records_after, add-rerun.ensures.text_after)) in record { value = both.0; records_after = both.1.0; text_after = both.1.1 }
