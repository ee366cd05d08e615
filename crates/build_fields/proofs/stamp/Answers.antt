use Rattle.build_draft.specs.Draft.{asks, draft_of}
use Rattle.build_fields.proofs.Answering.{fails, passes}
use Rattle.build_draft.proofs.Places.{record-back}
use Rattle.tree_values.specs.of_tree_put.Put.{put_moment}
use mathlib.Core.Path.{refl}
use mathlib.Core.Path.{ap}
use mathlib.Core.Bool.{not}
use Rattle.build_fields.proofs.stamp.Goals as goal

pub returns-then-not-is_timed : goal.returns-then-not-is_timed
unfolding asks draft_of
returns-then-not-is_timed c = λ text. rw (fails (c.is_timed.ensures text) (ap not c.if-not-is_timed.true)) refl

pub returns-then-not-in_range : goal.returns-then-not-in_range
unfolding asks draft_of
returns-then-not-in_range c = λ text. rw (passes (c.is_timed.ensures text) (ap not c.if-not-is_timed.false), fails c.in_range.ensures (ap not c.if-not-in_range.true)) refl

pub returns : goal.returns
unfolding asks draft_of
returns c =
    let args = c.args in
    let is-timed = c.is_timed in
    let if1 = c.if-not-is_timed in
    let in-range = c.in_range in
    let if2 = c.if-not-in_range in
    let least = c.least-at in
    λ text. rw (
      passes (is-timed.ensures text) (ap not if1.false),
      passes in-range.ensures (ap not if2.false),
      record-back args.records.now args.i least.ensures (put_moment args.m) c.put_moment.ensures,
    ) refl
