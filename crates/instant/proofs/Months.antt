-- The days before a month, by a table of a common year and the leap rule. Assumes nothing.
use Prim.Native.Nat.{ℕ, zero, suc, ◌+◌, ◌-◌, ◌*◌, ◌≤◌, ◌<◌}
use mathlib.Core.Path.{◌≡◌, refl, sym, ap, ◌∙◌}
use mathlib.Core.Bool.{Bool, true, false, cond, ◌&&◌}
use mathlib.Core.List.{List, [], ◌∷◌}
use native.Mathlib.Omega.{arith}
use borrow.Author.Tests.{ne_eqb, ltb-true, ltb-false}
use lib.Dec.{eqb, ltb, eqb→eq}
use lib.ListN.{get_or}
use Rattle.days.specs.of_calendar.Calendar.{is_leap, month_length}
use Rattle.days.proofs.of_calendar.Months.{month-past}
use Rattle.days.specs.Dates.{days_before_month}
use Rattle.days.proofs.Table.{at}
use Rattle.days.proofs.Lengths.{length_most}

abbrev pub months : List ℕ
months = 0 ∷ 0 ∷ 31 ∷ 59 ∷ 90 ∷ 120 ∷ 151 ∷ 181 ∷ 212 ∷ 243 ∷ 273 ∷ 304 ∷ 334 ∷ 365 ∷ []

right : ℕ → ℕ → Bool
right k x = eqb x (days_before_month 1 k)

pub month-entry : (k : ℕ) → k ≤ 13 → get_or months k 0 ≡ days_before_month 1 k
unfolding right days_before_month month_length is_leap
month-entry k h = eqb→eq (get_or months k 0) (days_before_month 1 k) (at right months tt k (omega arith))

month-next : (y m : ℕ) → days_before_month y (suc m) ≡ days_before_month y m + month_length y m
unfolding days_before_month
month-next y m = refl

-- behind December nothing is added
year-over : (k m : ℕ) → m ≡ k + 13 → 365 ≡ days_before_month 1 m
year-over zero m e =
    let z : m ≡ 13 = omega arith in
    month-entry 13 (omega arith) ∙ ap (days_before_month 1) (sym z)
year-over (suc k) m e =
    let z : suc (k + 13) ≡ m = omega arith in
    let n = month-next 1 (k + 13) in
    let p = month-past 1 (k + 13) (omega arith) in
    let h = year-over k (k + 13) refl in
    let s : 365 ≡ days_before_month 1 (suc (k + 13)) = omega (arith, n, p, h) in
    s ∙ ap (days_before_month 1) z

pub month-over : (m : ℕ) → 13 < m → 365 ≡ days_before_month 1 m
month-over m h = year-over (m - 13) m (omega arith)

-- up to February any year is as a common one
month-early : (y m : ℕ) → m < 3 → days_before_month 1 m ≡ days_before_month y m
unfolding days_before_month month_length
month-early y zero h = refl
month-early y (suc zero) h = refl
month-early y (suc (suc zero)) h = refl
month-early y (suc (suc (suc m))) h = absurd (omega arith)

same_length : (y m : ℕ) → (m ≡ 2 → ⊥) → month_length y m ≡ month_length 1 m
unfolding month_length
same_length y m h = rw (ne_eqb m 2 h) refl

february : (z : ℕ) (b : Bool) → is_leap z ≡ b → days_before_month z 3 ≡ 31 + cond b 29 28
unfolding days_before_month month_length
february z b e = rw e refl

third : (y : ℕ) → days_before_month 1 3 + cond (is_leap y) 1 0 ≡ days_before_month y 3
third y = go (is_leap y) refl
  where
    go : (b : Bool) → is_leap y ≡ b → days_before_month 1 3 + cond b 1 0 ≡ days_before_month y 3
    go true e = omega (arith, month-entry 3 (omega arith), february y true e)
    go false e = omega (arith, month-entry 3 (omega arith), february y false e)

later : (y k m : ℕ) → m ≡ k + 3 → days_before_month 1 m + cond (is_leap y) 1 0 ≡ days_before_month y m
later y zero m e = let z : m ≡ 3 = omega arith in rw z (third y)
later y (suc k) m e =
    let z : m ≡ suc (k + 3) = omega arith in
    let h = later y k (k + 3) refl in
    rw z (omega (arith, h, month-next 1 (k + 3), month-next y (k + 3), same_length y (k + 3) (λ q. omega arith)))

month-later : (y m : ℕ) (b : Bool) → is_leap y ≡ b → 3 ≤ m → days_before_month 1 m + cond b 1 0 ≡ days_before_month y m
month-later y m b e h = ap (λ (t : Bool). days_before_month 1 m + cond t 1 0) (sym e) ∙ later y (m - 3) m (omega arith)

-- a day more where the leap day is before the month
pub month-days : (y m : ℕ) (b : Bool) → (ltb 2 m && is_leap y) ≡ b → days_before_month 1 m + cond b 1 0 ≡ days_before_month y m
month-days y m b e = go (ltb 2 m) refl (is_leap y) refl e
  where
    go : (p : Bool) → ltb 2 m ≡ p → (q : Bool) → is_leap y ≡ q → (p && q) ≡ b → days_before_month 1 m + cond b 1 0 ≡ days_before_month y m
    go true h q l k = ap (λ (t : Bool). days_before_month 1 m + cond t 1 0) (sym k) ∙ month-later y m q l (ltb-true 2 m h)
    go false h q l k = ap (λ (t : Bool). days_before_month 1 m + cond t 1 0) (sym k) ∙ omega (arith, month-early y m (omega (arith, ltb-false 2 m h)))

-- no month begins later
pub month-most : (y m : ℕ) → days_before_month y m ≤ m * 31
month-most y zero = omega (arith, month-early y 0 (omega arith), month-entry 0 (omega arith))
month-most y (suc m) = omega (arith, month-next y m, month-most y m, length_most y m)
