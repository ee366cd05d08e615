use Prim.Native.Nat.{ℕ}
use mathlib.Core.Path.{ap, ◌∙◌}
use native.Mathlib.Omega.{arith}
use Rattle.instant.specs.inside.Lent.{instant_from}
use Rattle.instant.proofs.Bounds.{years-most}
use Rattle.instant.proofs.Lent.{from-year}
use Rattle.instant.proofs.instant_of.Goals as goal

pub instant_from-requires : goal.instant_from-requires
instant_from-requires c = omega (arith, years-most c.args.m.year, c.days_before_year.ensures)

pub returns : goal.returns
returns c =
    let m = c.args.m in
    c.instant_from.ensures ∙ ap (λ (n : ℕ). instant_from n m) c.days_before_year.ensures ∙ from-year m
