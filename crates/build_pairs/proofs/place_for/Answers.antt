use Rattle.build_pairs.proofs.Places.{place-last, place_end}
use Rattle.build_pairs.proofs.place_for.Goals as goal

pub returns-then-is_main : goal.returns-then-is_main
returns-then-is_main c =
    let args = c.args in
    place-last args.b args.words.now c.last_of-last.ensures c.kind_at.ensures c.is_main.ensures c.if-is_main.true

pub returns : goal.returns
returns c =
    let args = c.args in
    place_end args.b args.words.now c.last_of-last.ensures c.kind_at.ensures c.is_main.ensures c.if-is_main.false
