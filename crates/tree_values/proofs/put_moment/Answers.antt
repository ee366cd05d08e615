use mathlib.Core.Path.{ap, ◌∙◌}
use lib.ListN.{length}
use Rattle.tree_put.proofs.Puts.{moment-length, moment-put}
use Rattle.tree_values.proofs.put_moment.Goals as goal

pub returns : goal.returns
returns c =
    let p = c in
    let p₄ = p in
    let p₃ = p₄ in
    let p₂ = p₃ in
    let p₁ = p₂ in
    let a = p₁.args in
    moment-put a.m a.words.now p₁.put_pair.ensures p₂.put_pair-2.ensures p₃.put_pair-3.ensures p₄.put_pair-4.ensures p.put_bit.ensures

pub shape_of-words : goal.shape_of-words
shape_of-words c = let a = c.args in ap length (returns c) ∙ moment-length a.m a.words.now
