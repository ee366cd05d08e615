use Rattle.port_values.proofs.Last.{last}
use Rattle.build_draft.specs.declared.Holder.TheVariants as holder
use native.Mathlib.Omega.{arith}
use mathlib.Core.List.{[], ◌∷◌}
use Rattle.port_values.proofs.codes.holder_at.Goals as goal

pub returns-in_default : goal.returns-in_default
returns-in_default c = last (holder.Suite ∷ []) holder.Case c.args.code (omega (arith, c.in_default.in_default-own.rest.1))
