use Rattle.merge_head.specs.inside.Head.{is_earlier}
use Rattle.tree_merge.specs.of_span.inside.Span.{sooner}
use Rattle.tree_merge.specs.of_instant.Instant.{instant_of}
use mathlib.Core.Path.{ap, ap₂, ◌∙◌}
use Rattle.merge_head.proofs.is_earlier.Goals as goal

pub returns : goal.returns
unfolding is_earlier
returns c =
    let moment-of = c.moment_of in
    c.sooner.ensures
    ∙ ap₂ sooner (c.instant_of.ensures ∙ ap instant_of moment-of.ensures) (c.instant_of-2.ensures ∙ ap instant_of c.moment_of-2.ensures)
