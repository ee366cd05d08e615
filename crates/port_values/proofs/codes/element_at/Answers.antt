use Rattle.port_values.proofs.Last.{last}
use Rattle.build_draft.specs.declared.Element.TheVariants as element
use native.Mathlib.Omega.{arith}
use mathlib.Core.List.{[], ◌∷◌}
use Rattle.port_values.proofs.codes.element_at.Goals as goal

pub returns-in_default : goal.returns-in_default
returns-in_default c =
    let n = c.in_default.in_default-own.rest in last (element.Report ∷ element.Suite ∷ element.Case ∷ element.Status ∷ []) element.Last c.args.code (omega (arith, n.0.0.0.1, n.0.0.1, n.0.1, n.1))
