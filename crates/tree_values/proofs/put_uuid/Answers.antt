use Rattle.tree_put.proofs.Puts.{uuid-put}
use Rattle.tree_values.proofs.put_uuid.Goals as goal

pub returns : goal.returns
returns c =
    let p = c in
    let p₂ = p in
    let p₁ = p₂ in
    let a = p₁.args in
    uuid-put a.w a.words.now p₁.put_pair.ensures p₂.put_pair-2.ensures p.put_bit.ensures
