use Rattle.port_refusal.specs.declared.KRefusal.{KRefusal}
use mathlib.Core.Path.{ap}
use Rattle.port_values.proofs.counted.Goals as goal

pub returns : goal.returns
returns c = ap (λ (k : KRefusal). record { counts = c.args.c.counts; refusal = k }) c.from_refusal.ensures
