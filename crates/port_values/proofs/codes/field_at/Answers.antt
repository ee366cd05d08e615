use Rattle.port_values.proofs.Last.{last}
use Rattle.build_draft.specs.declared.TextField.TheVariants as field
use native.Mathlib.Omega.{arith}
use mathlib.Core.List.{[], ◌∷◌}
use Prim.Native.Nat.{◌≤◌}
use Rattle.port_values.proofs.codes.field_at.Goals as goal

pub returns-in_default : goal.returns-in_default
returns-in_default c =
    let n = c.in_default.in_default-own.rest in
    let code = c.args.code in
    let four : 4 ≤ code = omega (arith, n.0.0.0.0.0.0.1, n.0.0.0.0.0.1, n.0.0.0.0.1, n.0.0.0.1) in
    last (field.Classname ∷ field.Message ∷ field.Ty ∷ field.Description ∷ field.StackTrace ∷ field.SystemOut ∷ field.SystemErr ∷ []) field.Hostname code
    (omega (arith, four, n.0.0.1, n.0.1, n.1))
