use Rattle.build_pairs.proofs.Places.{own_key}
use Rattle.build_pairs.proofs.has_key.Goals as goal

pub returns : goal.returns
returns c =
    let args = c.args in
    own_key args.text.now args.r.now args.key.now c.part_of-own.result.now
    c.field.ensures c.field-2.ensures c.part_of-own.ensures c.same.ensures
