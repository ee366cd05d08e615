use Rattle.write_walk.proofs.Walking.{kind-there}
use mathlib.Core.Path.{◌∙◌}
use Rattle.write_walk.proofs.kind_of_first.Goals as goal

pub returns : goal.returns
returns c =
    let args = c.args in
    c.field.ensures ∙ kind-there args.words.now _ c.seek-at.result c.seek-at.ensures.words_value
