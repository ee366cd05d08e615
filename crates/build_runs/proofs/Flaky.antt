-- The flaky bit is taken from a record. Assumes nothing.
use Prim.Native.Nat.{ℕ, ◌-◌, ◌/◌, ◌%◌, ◌≤◌}
use mathlib.Core.Path.{◌≡◌, refl}
use mathlib.Core.Bool.{Bool, true, false}
use mathlib.Core.List.{List}
use native.Mathlib.Omega.{arith}
use borrow.Author.Tests.{eqb-true}
use lib.ListN.{get_or, set}
use Rattle.build_records.specs.of_tree_record.Bits as bit
use Rattle.build_records.specs.of_tree_record.Record.{has_bit, unmarked}

module _ (r : List ℕ) {t : Bool} (e : t ≡ has_bit bit.flaky r) where
  -- a set bit is at most the word
  pub unmark-fits : t ≡ true → {bits : ℕ} → bits ≡ get_or r 1 0 → 512 ≤ bits
  unmark-fits q b =
      let h : get_or r 1 0 / 512 % 2 ≡ 1 = eqb-true (get_or r 1 0 / 512 % 2) 1 (rw e at q) in
      omega arith

  -- set: taken away
  pub unmark-put : t ≡ true → {bits : ℕ} → bits ≡ get_or r 1 0 → set r 1 (bits - 512) ≡ unmarked bit.flaky r
  unfolding unmarked
  unmark-put q b = rw (b, rw e at q) refl

  -- not set: the record stays
  pub unmark-none : t ≡ false → r ≡ unmarked bit.flaky r
  unfolding unmarked
  unmark-none q = rw (rw e at q) refl
