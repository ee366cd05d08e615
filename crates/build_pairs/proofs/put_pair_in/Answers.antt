use Rattle.build_pairs.proofs.Pairs.{pair-last, pair-before}
use Rattle.build_pairs.proofs.put_pair_in.Goals as goal

pub returns-then-last-place : goal.returns-then-last-place
returns-then-last-place c =
    let args = c.args in
    let last_of = c.last_of-last in
    pair-last args.b args.records.now args.place args.x args.y args.z last_of.ensures c.put_both.ensures c.if-last-place.true

pub returns : goal.returns
returns c =
    let args = c.args in
    let last_of = c.last_of-last in
    let put_both = c.put_both in
    let if1 = c.if-last-place in
    pair-before args.b args.records.now args.place args.x args.y args.z last_of.ensures put_both.ensures if1.false c.exchange.ensures
