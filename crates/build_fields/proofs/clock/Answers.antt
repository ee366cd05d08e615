use Rattle.build_draft.specs.Draft.{asks, draft_of}
use Rattle.build_fields.proofs.Answering.{fails, passes}
use Rattle.build_draft.proofs.Places.{record-back}
use Rattle.tree_values.specs.of_tree_put.Put.{put_time}
use mathlib.Core.Path.{refl}
use mathlib.Core.Path.{ap}
use mathlib.Core.Bool.{not}
use Rattle.build_fields.proofs.clock.Goals as goal

pub returns-then-not-is_timed : goal.returns-then-not-is_timed
unfolding asks draft_of
returns-then-not-is_timed c = λ text. rw (fails (c.is_timed.ensures text) (ap not c.if-not-is_timed.true)) refl

pub returns-then-not-seconds-nanos : goal.returns-then-not-seconds-nanos
unfolding asks draft_of
returns-then-not-seconds-nanos c =
    let args = c.args in
    λ text. rw (passes (c.is_timed.ensures text) (ap not c.if-not-is_timed.false), c.if-not-seconds-nanos.true) refl

pub returns : goal.returns
unfolding asks draft_of
returns c =
    let args = c.args in
    let is-timed = c.is_timed in
    let if1 = c.if-not-is_timed in
    let if2 = c.if-not-seconds-nanos in
    let least = c.least-at in
    λ text. rw (
      passes (is-timed.ensures text) (ap not if1.false),
      if2.false,
      record-back args.records.now args.i least.ensures (put_time (args.seconds, args.nanos)) c.put_time.ensures,
    ) refl
