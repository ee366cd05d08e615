use Rattle.build_kinds.proofs.of_build_draft.Steps.{handed-on}
use Rattle.build_pairs.proofs.Pairs.{new-refused, new-fits, new-done}
use Rattle.build_pairs.proofs.new_pair.Goals as goal

pub returns-in_err-c : goal.returns-in_err-c
returns-in_err-c c =
    let args = c.args in
    let take-record = c.take_record in
    rw (handed-on c.from_residual.result c.take_record.result c.from_residual.ensures.1 c.in_err-c.was)
    (new-refused take-record.result args.k args.b args.records.now args.place args.x args.y take-record.new.records take-record.ensures c.in_err-c.was)

pub put_pair_in-requires : goal.put_pair_in-requires
put_pair_in-requires c =
    let take-record = c.take_record in
    let f = new-fits take-record.result c.args.k c.args.b c.args.records.now c.args.place c.args.x c.args.y
    take-record.new.records take-record.ensures c.in_ok-c.was c.requires.0 in (f.0, f.1, f.2, c.requires.1, c.requires.2)

pub returns : goal.returns
returns c =
    let args = c.args in
    let take-record = c.take_record in
    new-done take-record.result args.k args.b args.records.now args.place args.x args.y
    take-record.new.records take-record.ensures c.in_ok-c.was c.put_pair_in.ensures
