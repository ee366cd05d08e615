-- Words that fit the fields of a moment. Assumes nothing.
use Prim.Native.Nat.{ℕ, zero, suc, ◌≤◌}
use mathlib.Core.Bool.{Bool, true, false, cond, ◌&&◌, and-eq-true_iff, true≢false}
use mathlib.Core.List.{List, [], ◌∷◌}
use mathlib.Core.Path.{◌≡◌, refl, sym, ◌∙◌}
use native.Mathlib.Omega.{arith}
use borrow.Author.Tests.{le-leb, leb-true}
use lib.Dec.{leb, eqb, lit≤}
use lib.ListN.{get_or}
use Rattle.tree_slots.specs.of_calendar.Calendar.{is_leap, lengths, month_length}
use Rattle.tree_slots.specs.of_timestamp.Timestamp.{in_range}
use Rattle.tree_slots.proofs.of_timestamp.Ranges.{InRange, range-facts}
use Rattle.tree_slots.specs.of_tree_report.Fields.{moment_of}
use Rattle.tree_moments.specs.inside.Fitting.{moment_fits}

pub record Fitting (r : List ℕ) : Type 0 where
  pub year : get_or r 8 0 ≤ 9999
  pub month : get_or r 9 0 ≤ 12
  pub day : get_or r 10 0 ≤ 31
  pub hour : get_or r 11 0 ≤ 23
  pub minute : get_or r 12 0 ≤ 59
  pub second : get_or r 13 0 ≤ 59
  pub offset : get_or r 15 0 ≤ 2878

both : (a b : Bool) → (a && b) ≡ true → (a ≡ true) × (b ≡ true)
both a b e = (and-eq-true_iff a b).0 e

pub moment-fitting : (r : List ℕ) → moment_fits r ≡ true → Fitting r
unfolding moment_fits
moment-fitting r e =
    let year = leb (get_or r 8 0) 9999 in
    let month = leb (get_or r 9 0) 12 in
    let day = leb (get_or r 10 0) 31 in
    let hour = leb (get_or r 11 0) 23 in
    let minute = leb (get_or r 12 0) 59 in
    let second = leb (get_or r 13 0) 59 in
    let offset = leb (get_or r 15 0) 2878 in
    let halves = both (year && (month && day)) ((hour && (minute && second)) && offset) e in
    let date = both year (month && day) halves.0 in
    let days = both month day date.1 in
    let rest = both (hour && (minute && second)) offset halves.1 in
    let clock = both hour (minute && second) rest.0 in
    let seconds = both minute second clock.1 in
    record {
      year = leb-true (get_or r 8 0) 9999 date.0;
      month = leb-true (get_or r 9 0) 12 days.0;
      day = leb-true (get_or r 10 0) 31 days.1;
      hour = leb-true (get_or r 11 0) 23 clock.0;
      minute = leb-true (get_or r 12 0) 59 seconds.0;
      second = leb-true (get_or r 13 0) 59 seconds.1;
      offset = leb-true (get_or r 15 0) 2878 rest.1;
    }

-- no month has more than 31 days
at_most : List ℕ → Bool
at_most [] = true
at_most (n ∷ ns) = leb n 31 && at_most ns

at-most-at : (ns : List ℕ) (m : ℕ) → at_most ns ≡ true → get_or ns m 0 ≤ 31
unfolding at_most
at-most-at [] m e = omega arith
at-most-at (n ∷ ns) zero e = leb-true n 31 (both (leb n 31) (at_most ns) e).0
at-most-at (n ∷ ns) (suc m) e = at-most-at ns m (both (leb n 31) (at_most ns) e).1

month-most : (y m : ℕ) → month_length y m ≤ 31
unfolding month_length at_most
month-most y m = go (eqb m 2 && is_leap y)
  where
    go : (t : Bool) → cond t 29 (get_or (0 ∷ lengths) m 0) ≤ 31
    go true = lit≤ tt
    go false = at-most-at (0 ∷ lengths) m refl

fits : (r : List ℕ) → InRange (moment_of r) → moment_fits r ≡ true
unfolding moment_fits
fits r i =
    let d = month-most (get_or r 8 0) (get_or r 9 0) in
    rw (
      le-leb (get_or r 8 0) 9999 i.year-most,
      le-leb (get_or r 9 0) 12 i.month-most,
      le-leb (get_or r 10 0) 31 (omega (arith, i.day-most)),
      le-leb (get_or r 11 0) 23 i.hour-most,
      le-leb (get_or r 12 0) 59 i.minute-most,
      le-leb (get_or r 13 0) 59 i.second-most,
      le-leb (get_or r 15 0) 2878 i.offset-most,
    ) refl

pub moment-over : (r : List ℕ) → moment_fits r ≡ false → false ≡ in_range (moment_of r)
moment-over r e = go (in_range (moment_of r)) refl
  where
    go : (t : Bool) → in_range (moment_of r) ≡ t → false ≡ t
    go true h = absurd (true≢false (sym (fits r (range-facts (moment_of r) h)) ∙ e))
    go false h = refl
