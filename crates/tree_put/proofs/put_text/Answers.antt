use mathlib.Core.Path.{ap, ◌∙◌}
use Rattle.tree_record.specs.Record.{marked}
use Rattle.tree_put.proofs.put_text.Goals as goal

pub returns : goal.returns
returns c =
    let p = c in
    let p₁ = p in
    p.put_bit.ensures ∙ ap (marked p₁.args.k) p₁.put_pair.ensures
