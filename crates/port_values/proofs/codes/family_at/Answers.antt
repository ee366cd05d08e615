use Rattle.port_values.proofs.Last.{last}
use Rattle.build_draft.specs.declared.FlakyOrRerun.TheVariants as family
use native.Mathlib.Omega.{arith}
use mathlib.Core.List.{[], ◌∷◌}
use Rattle.port_values.proofs.codes.family_at.Goals as goal

pub returns-in_default : goal.returns-in_default
returns-in_default c = last (family.Flaky ∷ []) family.Rerun c.args.code (omega (arith, c.in_default.in_default-own.rest.1))
