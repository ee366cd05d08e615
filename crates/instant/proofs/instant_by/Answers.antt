use Prim.Native.Nat.{ℕ}
use mathlib.Core.Path.{ap, ◌∙◌}
use Rattle.instant.specs.inside.Lent.{instant_from}
use Rattle.instant.proofs.instant_by.Goals as goal

pub instant_from-requires : goal.instant_from-requires
instant_from-requires c = c.days_by.ensures.upper_bound

pub returns : goal.returns
returns c =
    let m = c.args.m in
    c.instant_from.ensures ∙ ap (λ (n : ℕ). instant_from n m) c.days_by.ensures.value
