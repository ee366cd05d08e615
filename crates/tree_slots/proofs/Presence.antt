-- Slots of a record, in the terms of the code. Assumes nothing.
use Prim.Native.Nat.{ℕ, ◌+◌, ◌-◌}
use mathlib.Core.Bool.{Bool, true, false}
use mathlib.Core.List.{List}
use mathlib.Core.Path.{◌≡◌, sym, ap, ◌∙◌}
use native.Mathlib.Omega.{arith}
use lib.ListN.{take, drop}
use Rattle.tree_report.specs.Layout.{all_zero, zero_at}
use Rattle.tree_report.specs.inside.Parts.{slot}

-- the slot's bit is set: the code's answer is the test of its value
pub slot-present : {b p x y : Bool} (z : Bool) → b ≡ p → b ≡ true → x ≡ y → x ≡ slot p y z
slot-present z e t q = rw (sym e ∙ t) q

-- the slot's bit isn't set: the code's answer is the test for zeros
pub slot-absent : {b p x : Bool} (y : Bool) {z : Bool} → b ≡ p → b ≡ false → x ≡ z → x ≡ slot p y z
slot-absent y e t q = rw (sym e ∙ t) q

pub zero-part : (r : List ℕ) (o n : ℕ) → all_zero (take (o + n - o) (drop o r)) ≡ zero_at r o n
zero-part r o n = let z : o + n - o ≡ n = omega arith in ap (λ (k : ℕ). all_zero (take k (drop o r))) z
