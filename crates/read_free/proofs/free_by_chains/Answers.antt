use Rattle.read_chains.specs.of_area.Area.{zeros}
use mathlib.Core.Path.{ap, ◌∙◌}
use Rattle.read_free.proofs.free_by_chains.Goals as goal

pub returns : goal.returns
returns c =
    let free-chained = c.free_chained-found in
    record { unrepeated = free-chained.ensures; work_after = c.clear_words.ensures ∙ ap zeros free-chained.auto.work }
