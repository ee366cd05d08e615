use Rattle.reference.specs.Reference.{entity_chars}
use Rattle.reference.proofs.Naming.{entity-none, entity-place, entity-some}
use Rattle.reference.proofs.entity_of.Goals as goal

pub returns-then-k-eq0 : goal.returns-then-k-eq0
returns-then-k-eq0 c =
    let args = c.args in
    entity-none args.name.now _ c.code_in-k.ensures c.if-k-eq0.true

pub bounds-chars-k : goal.bounds-chars-k
bounds-chars-k c =
    let args = c.args in
    entity-place args.name.now _ c.code_in-k.ensures c.if-k-eq0.false

pub returns : goal.returns
unfolding entity_chars
returns c =
    let args = c.args in
    entity-some args.name.now _ c.code_in-k.ensures c.if-k-eq0.false
