use Rattle.port_refusal.specs.declared.KRefusal.{KRefusal}
use mathlib.Core.Path.{ap}
use Rattle.port_values.proofs.built.Goals as goal

pub returns : goal.returns
returns c = ap (λ (k : KRefusal). record { builder = c.args.b.builder; refusal = k }) c.from_refusal.ensures
