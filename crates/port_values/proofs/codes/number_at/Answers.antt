use Rattle.port_values.proofs.Last.{last}
use Rattle.build_draft.specs.declared.NumberField.TheVariants as number
use native.Mathlib.Omega.{arith}
use mathlib.Core.List.{[], ◌∷◌}
use Rattle.port_values.proofs.codes.number_at.Goals as goal

pub returns-in_default : goal.returns-in_default
returns-in_default c = last (number.Assertions ∷ []) number.Disabled c.args.code (omega (arith, c.in_default.in_default-own.rest.1))
