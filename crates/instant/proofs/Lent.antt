-- By the table of the code instants are what they are. Assumes nothing.
use Prim.Native.Nat.{ℕ}
use mathlib.Core.Path.{◌≡◌, refl, ap, ◌∙◌}
use Rattle.timestamp.specs.declared.Moment.{Moment}
use Rattle.days.specs.Days.{days_before}
use Rattle.days.specs.Dates.{day_number}
use Rattle.days.proofs.Cycle.{table, by-table}
use Rattle.instant.specs.Instant.{instant_of}
use Rattle.instant.specs.inside.Lent.{instant_from, instant_by}

pub from-year : (m : Moment) → instant_from (days_before m.year) m ≡ instant_of m
unfolding instant_from instant_of day_number
from-year m = refl

pub by-lent : (m : Moment) → instant_by table m ≡ instant_of m
by-lent m = ap (λ (n : ℕ). instant_from n m) (by-table m.year) ∙ from-year m
