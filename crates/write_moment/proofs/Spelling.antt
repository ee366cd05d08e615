-- A timestamp's text, stored into a row of bytes that has its marks. Assumes nothing.
use Prim.Native.Nat.{ℕ, suc, ◌+◌, ◌/◌, ◌%◌}
use mathlib.Core.Path.{◌≡◌, refl}
use mathlib.Core.List.{List}
use native.Mathlib.Omega.{arith}
use lib.ListN.{set}
use lib.Seq.{sets}
use Rattle.timestamp.specs.of_digits.Digits.{last_digits_of}
use Rattle.timestamp.specs.of_names.Bytes.{bytes}
use Rattle.timestamp.specs.declared.Moment.{Moment}
use Rattle.write_moment.specs.Written.{date_text, clock_text, offset_text, timestamp_text, sign, away}

pub two-stored : (l : List ℕ) (at n : ℕ) → set (set l at (0x30 + n / 10 % 10)) (at + 1) (0x30 + n % 10) ≡ sets l at (last_digits_of 2 n)
two-stored l at n = let e : at + 1 ≡ suc at = omega arith in rw e refl

module _ (m : Moment) where
  abbrev date : List ℕ
  date = sets (sets (sets (sets (bytes "0000-00-00T00:00:00.000+00:00") 0 (last_digits_of 2 (m.year / 100))) 2 (last_digits_of 2 m.year)) 5 (last_digits_of 2 m.month)) 8 (last_digits_of 2 m.day)

  abbrev clock : List ℕ
  clock = sets (sets (sets date 11 (last_digits_of 2 m.hour)) 14 (last_digits_of 2 m.minute)) 17 (last_digits_of 2 m.second)

  -- three digits as two pairs
  abbrev fraction : List ℕ
  fraction = sets (sets clock 20 (last_digits_of 2 (m.nanos / 1000000 / 10))) 21 (last_digits_of 2 (m.nanos / 1000000))

  pub moment-stored : (s a : ℕ) → s ≡ sign m.offset → a ≡ away m.offset → sets (sets (set fraction 23 s) 24 (last_digits_of 2 (a / 60))) 27 (last_digits_of 2 (a % 60)) ≡ timestamp_text m
  unfolding date_text clock_text offset_text timestamp_text
  moment-stored s a p q =
      let e : m.year / 100 ≡ m.year / 10 / 10 = omega arith in
      rw (p, q, e) refl
