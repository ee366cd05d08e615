use Rattle.build_draft.specs.Draft.{asks, draft_of}
use mathlib.Core.Path.{refl, ap, ◌∙◌}
use Rattle.build_fields.proofs.Answering.{fails, passes}
use Rattle.build_draft.proofs.Places.{record-back}
use Rattle.build_draft.specs.Parts.{put_number}
use Rattle.tree_values.specs.of_tree_record.Record.{marked}
use mathlib.Core.Bool.{not}
use Rattle.build_fields.proofs.put_number.Goals as goal

pub returns-then-not-is_of : goal.returns-then-not-is_of
unfolding asks draft_of
returns-then-not-is_of c = λ text. rw (fails c.is_of.ensures (ap not c.if-not-is_of.true)) refl

pub returns : goal.returns
unfolding asks draft_of
returns c =
    let args = c.args in
    let is-of = c.is_of in
    let if1 = c.if-not-is_of in
    let least = c.least-at in
    let put_count = c.put_count in
    λ text. rw (
      passes is-of.ensures (ap not if1.false),
      record-back args.records.now args.i least.ensures (put_number args.o args.k args.n) (c.put_bit.ensures ∙ ap (marked args.k) put_count.ensures),
    ) refl
