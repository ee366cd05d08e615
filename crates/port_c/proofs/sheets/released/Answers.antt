use Rattle.port_values.specs.of_port_refusal.declared.KRefusal.{KRefusal}
use mathlib.Core.Path.{ap}
use Rattle.port_c.proofs.sheets.released.Goals as goal

pub returns : goal.returns
returns c = ap (λ (k : KRefusal). record { sheet = c.args.answer.sheet; refusal = k }) c.from_refusal.ensures
