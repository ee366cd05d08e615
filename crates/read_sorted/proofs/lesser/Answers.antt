use Rattle.read_sorted.proofs.Scanning.{kept-told, hit-told, miss-told}
use Rattle.read_sorted.proofs.lesser.Goals as goal

pub returns-then-found-at : goal.returns-then-found-at
returns-then-found-at c = let s = c.args in kept-told s.attributes.now s.source.now s.i s.j s.found c.wide-at.ensures c.if-found-at.true

pub returns-then-same : goal.returns-then-same
returns-then-same c =
    let wide = c.wide-at in
    let if1 = c.if-found-at in
    let s = c.args in hit-told s.attributes.now s.source.now s.i s.j s.found
    wide.ensures if1.false c.key_of.ensures c.key_of-2.ensures c.same.ensures c.if-same.true

pub returns : goal.returns
returns c =
    let wide = c.wide-at in
    let if1 = c.if-found-at in
    let s = c.args in miss-told s.attributes.now s.source.now s.i s.j s.found
    wide.ensures if1.false c.key_of.ensures c.key_of-2.ensures c.same.ensures c.if-same.false
