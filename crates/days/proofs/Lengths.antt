-- No month has more than 31 days, and no year more than 366. Assumes nothing.
use Prim.Native.Nat.{ℕ, ◌≤◌}
use mathlib.Core.Path.{◌≡◌, refl}
use mathlib.Core.Bool.{Bool, true, false, cond, ◌&&◌}
use mathlib.Core.List.{◌∷◌}
use native.Mathlib.Omega.{arith}
use borrow.Author.Tests.{leb-true, leb-false}
use lib.Dec.{eqb, leb, leb→le}
use lib.ListN.{get_or}
use Rattle.calendar.specs.Calendar.{is_leap, lengths, month_length}
use Rattle.calendar.proofs.Months.{month-past}
use Rattle.days.specs.Days.{year_length}
use Rattle.days.proofs.Table.{at}

small : ℕ → ℕ → Bool
small k x = leb x 31

list-most : (m : ℕ) → m ≤ 12 → get_or (0 ∷ lengths) m 0 ≤ 31
unfolding small
list-most m h = leb→le (get_or (0 ∷ lengths) m 0) 31 (at small (0 ∷ lengths) tt m (omega arith))

month-within : (y m : ℕ) → m ≤ 12 → month_length y m ≤ 31
unfolding month_length
month-within y m h = go (eqb m 2 && is_leap y) (list-most m h)
  where
    go : (b : Bool) → get_or (0 ∷ lengths) m 0 ≤ 31 → cond b 29 (get_or (0 ∷ lengths) m 0) ≤ 31
    go true l = omega arith
    go false l = l

pub length_most : (y m : ℕ) → month_length y m ≤ 31
length_most y m = go (leb m 12) refl
  where
    go : (b : Bool) → leb m 12 ≡ b → month_length y m ≤ 31
    go true e = month-within y m (leb-true m 12 e)
    go false e = omega (arith, month-past y m (leb-false m 12 e))

pub year-most : (y : ℕ) → year_length y ≤ 366
year-most y = go (is_leap y)
  where
    go : (b : Bool) → cond b 366 365 ≤ 366
    go true = omega arith
    go false = omega arith
