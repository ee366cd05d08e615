use Rattle.build_pairs.proofs.Places.{old-none, old_sought}
use Rattle.build_pairs.proofs.old_place.Goals as goal

pub returns-then-k-lt-SUITE_EXTRA : goal.returns-then-k-lt-SUITE_EXTRA
returns-then-k-lt-SUITE_EXTRA c =
    let args = c.args in
    λ t e. old-none args.b args.records.now args.text.now args.key.now args.k args.place t e c.if-k-lt-SUITE_EXTRA.true

pub returns : goal.returns
returns c =
    let args = c.args in
    λ t e. old_sought args.b args.records.now args.text.now args.key.now args.k args.place t e c.if-k-lt-SUITE_EXTRA.false
    c.holder_of-own.ensures c.key_place.ensures
