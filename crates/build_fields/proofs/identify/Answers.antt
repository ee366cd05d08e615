use Rattle.build_draft.specs.Draft.{asks, draft_of}
use mathlib.Core.Path.{refl}
use Rattle.build_fields.proofs.Answering.{fails, passes}
use Rattle.build_draft.proofs.Places.{record-back}
use Rattle.build_draft.specs.Calls.{set_uuid}
use Rattle.tree_values.specs.of_tree_put.Put.{put_uuid}
use mathlib.Core.Path.{ap}
use mathlib.Core.Bool.{not}
use Rattle.build_fields.proofs.identify.Goals as goal

pub returns-then-not-is_of : goal.returns-then-not-is_of
unfolding set_uuid asks draft_of
returns-then-not-is_of c = λ text. rw (fails c.is_of.ensures (ap not c.if-not-is_of.true)) refl

pub returns : goal.returns
unfolding set_uuid asks draft_of
returns c =
    let args = c.args in
    let is-of = c.is_of in
    let if1 = c.if-not-is_of in
    let least = c.least-at in
    λ text. rw (passes is-of.ensures (ap not if1.false), record-back args.records.now args.b.report least.ensures (put_uuid args.w) c.put_uuid.ensures) refl
