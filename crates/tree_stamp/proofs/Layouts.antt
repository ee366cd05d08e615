-- A timestamp in its range is the record's own: nothing is cut. Assumes nothing.
use Prim.Native.Nat.{ℕ, ◌%◌, ◌≤◌, ◌<◌}
use mathlib.Core.Path.{◌≡◌, refl}
use mathlib.Core.List.{List}
use mathlib.Core.Bool.{true}
use native.Mathlib.Omega.{arith}
use native.Mathlib.Nat.{mod-eq_of_lt}
use borrow.Author.Tests.{lt-ltb}
use Rattle.days.proofs.Lengths.{length_most}
use Rattle.tree_report.specs.of_timestamp.Timestamp.{in_range}
use Rattle.tree_report.proofs.of_timestamp.Ranges.{range-facts}
use Rattle.tree_report.specs.Fields.{moment_of}
use Rattle.tree_stamp.specs.Stamp.{cut_offset, cut_moment}

small : (a n : ℕ) → a < n → a % n ≡ a
small a n h = mod-eq_of_lt h

offset-own : (w : ℕ) → w ≤ 2878 → cut_offset w ≡ w
unfolding cut_offset
offset-own w h = rw (lt-ltb w 7439 (omega arith)) refl

pub moment-own : (r : List ℕ) → in_range (moment_of r) ≡ true → cut_moment r ≡ moment_of r
unfolding cut_moment
moment-own r e =
    let m = moment_of r in
    let i = range-facts (moment_of r) e in
    let d = length_most m.year m.month in
    rw (
      small m.year 10000 (omega (arith, i.year-most)),
      small m.month 100 (omega (arith, i.month-most)),
      small m.day 100 (omega (arith, i.day-most, d)),
      small m.hour 100 (omega (arith, i.hour-most)),
      small m.minute 100 (omega (arith, i.minute-most)),
      small m.second 100 (omega (arith, i.second-most)),
      offset-own m.offset i.offset-most,
    ) refl
