-- How many days there are before a year, at most. Assumes nothing.
use Prim.Native.Nat.{ℕ, zero, suc, ◌+◌, ◌*◌, ◌≤◌}
use mathlib.Core.Path.{◌≡◌, refl}
use native.Mathlib.Omega.{arith}
use Rattle.days.specs.Days.{year_length, days_before}
use Rattle.days.proofs.Lengths.{year-most}

years-next : (y : ℕ) → days_before (suc y) ≡ days_before y + year_length y
unfolding days_before
years-next y = refl

years-none : days_before 0 ≡ 0
unfolding days_before
years-none = refl

pub years-most : (y : ℕ) → days_before y ≤ y * 366
years-most zero = omega (arith, years-none)
years-most (suc y) = omega (arith, years-next y, years-most y, year-most y)
