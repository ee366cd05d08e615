use mathlib.Core.Path.{◌∙◌}
use Rattle.reader.proofs.Whole.{halted-there}
use Rattle.reader.proofs.halted.Goals as goal

pub returns : goal.returns
returns c =
    let args = c.args in
    λ placed. c.refusing.ensures ∙ halted-there args.st args.h placed c.path_of.result
    c.within-path.result (c.path_of.ensures placed.name) c.within-path.ensures
