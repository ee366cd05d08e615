use mathlib.Core.Path.{refl, ◌∙◌}
use Rattle.tree_shape.proofs.Presence.{record-whole}
use Rattle.tree_layout.specs.inside.Walk.{admits}
use Rattle.tree_layout.proofs.admitted.Goals as goal

pub returns : goal.returns
unfolding admits
returns c =
    let start = c in
    rw (c.is_record.ensures ∙ record-whole start.args.texts.now start.args.r.now start.requires, c.may_follow.ensures) refl
