use mathlib.Core.Path.{ap}
use Rattle.refusal.specs.declared.Path.{Path}
use Rattle.refusal.specs.Refusal.{nowhere}
use Rattle.refusal.proofs.refuse_late.Goals as goal

pub returns : goal.returns
returns c = ap (λ (p : Path). record { cause = c.args.cause; path = p; event = nowhere; attribute = nowhere }) c.new.ensures
