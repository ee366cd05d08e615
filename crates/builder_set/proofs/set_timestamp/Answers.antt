use Rattle.build_text.proofs.of_build_draft.Settling.{ends}
use Rattle.build_text.specs.of_build_draft.Calls.{set_timestamp}
use mathlib.Core.Path.{refl}
use Rattle.builder_set.proofs.set_timestamp.Goals as goal

pub returns : goal.returns
unfolding set_timestamp
returns c =
    let mark_of = c.mark_of in
    let settle = c.settle in
    let a = c.args in
    let p = c.stamp-step in
    let both = ends a.records.now a.text.now p.result p.new.records a.text.now (rw mark_of.ensures at (p.ensures a.text.now)) p.auto.records refl (settle.ensures.value, (settle.ensures.records_after, settle.ensures.text_after)) in record { value = both.0; records_after = both.1.0; text_after = both.1.1 }
