use Rattle.port_refusal.specs.of_refusal.declared.Verdict.TheVariants.{Refused}
use Rattle.port_refusal.specs.Port.{port_refusal}
use Rattle.port_refusal.specs.declared.KRefusal.{KRefusal}
use mathlib.Core.Path.{ap, ◌∙◌}
use Rattle.port_values.proofs.not_counted.Goals as goal

pub returns : goal.returns
returns c = ap (λ (k : KRefusal). record { counts = c.args.counts; refusal = k }) (c.from_refusal.ensures ∙ ap (port_refusal Refused) c.refuse_late.ensures)
