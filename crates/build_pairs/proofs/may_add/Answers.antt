use Rattle.build_pairs.proofs.Places.{may-be-added}
use Rattle.build_pairs.proofs.may_add.Goals as goal

pub returns : goal.returns
returns c =
    let args = c.args in
    may-be-added args.b args.records.now args.k args.place c.saturating_sub-before.ensures
    c.is_held.ensures c.kind_at.ensures c.may_stand_behind.ensures
