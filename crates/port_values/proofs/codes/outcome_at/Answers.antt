use Rattle.port_values.proofs.Last.{last}
use Rattle.build_draft.specs.of_tree_counts.declared.Outcome.TheVariants as outcome
use native.Mathlib.Omega.{arith}
use mathlib.Core.List.{[], ◌∷◌}
use Rattle.port_values.proofs.codes.outcome_at.Goals as goal

pub returns-in_default : goal.returns-in_default
returns-in_default c = let n = c.in_default.in_default-own.rest in last (outcome.Success ∷ outcome.Failure ∷ outcome.Error ∷ []) outcome.Skipped c.args.code (omega (arith, n.0.0.1, n.0.1, n.1))
