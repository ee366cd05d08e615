use Prim.Native.Nat.{ℕ, ◌+◌}
use mathlib.Core.Path.{sym, ap, ◌∙◌}
use mathlib.Core.Bool.{true, false}
use native.Mathlib.Omega.{arith}
use Rattle.instant.proofs.Months.{month-days}
use Rattle.instant.proofs.days_before_month.Goals as goal

pub returns-then-is_behind : goal.returns-then-is_behind
returns-then-is_behind c =
    let args = c.args in
    ap (λ (n : ℕ). n + 1) c.common_days-days.ensures
    ∙ month-days args.year args.month true (sym c.is_behind.ensures ∙ c.if-is_behind.true)

pub returns : goal.returns
returns c =
    let args = c.args in
    c.common_days-days.ensures
    ∙ omega (arith, month-days args.year args.month false (sym c.is_behind.ensures ∙ c.if-is_behind.false))
