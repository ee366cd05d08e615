use Rattle.build_kinds.proofs.of_build_draft.Places.{record-back}
use Rattle.build_kinds.specs.of_tree_put.Put.{put_text}
use Rattle.list_values.specs.of_tree_record.Bits as bit
use Rattle.list_values.specs.of_tree_record.Words as word
use mathlib.Core.Path.{ap, ◌∙◌}
use Rattle.build_pairs.proofs.put_both.Goals as goal

pub returns : goal.returns
returns c =
    let args = c.args in
    let least = c.least-at in
    let put-text = c.put_text in
    record-back args.records.now args.i least.ensures (λ r. put_text word.value bit.value args.y args.m (put_text word.key bit.key args.x args.n r))
    (c.put_text-2.ensures ∙ ap (put_text word.value bit.value args.y args.m) put-text.ensures)
