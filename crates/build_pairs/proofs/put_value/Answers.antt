use Rattle.build_kinds.proofs.of_build_draft.Places.{record-back}
use Rattle.build_kinds.specs.of_tree_put.Put.{put_pair}
use Rattle.list_values.specs.of_tree_record.Words as word
use Rattle.build_pairs.proofs.put_value.Goals as goal

pub returns : goal.returns
returns c =
    let args = c.args in
    let least = c.least-at in
    record-back args.records.now args.i least.ensures (put_pair word.value args.y args.n) c.put_pair.ensures
