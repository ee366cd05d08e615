-- Tests that are all passed, words of zero, and a word that is made of flags. Assumes nothing.
use Prim.Native.Nat.{ℕ, zero, suc, ◌+◌, ◌*◌, ◌/◌, ◌%◌, ◌^◌}
use mathlib.Core.Bool.{Bool, true, false, cond, ◌&&◌, and-eq-true_iff}
use mathlib.Core.List.{List, [], ◌∷◌}
use mathlib.Core.Path.{◌≡◌, refl}
use native.Mathlib.Nat.{div-div-eq-div-mul, zero-div, pow-succ'}
use native.Mathlib.Omega.{arith}
use lib.Dec.{eqb}
use lib.ListN.{get_or}
use Rattle.timestamp.specs.of_area.Area.{zeros}
use Rattle.schema.specs.Records.{all_zero, flags_of}

-- ---- two tests that hold, as one; each of two that hold
pub both : {a b : Bool} → a ≡ true → b ≡ true → (a && b) ≡ true
both {a} {b} p q = (and-eq-true_iff a b).1 (p, q)

pub and_left : (a b : Bool) → (a && b) ≡ true → a ≡ true
and_left a b e = ((and-eq-true_iff a b).0 e).0

pub and_right : (a b : Bool) → (a && b) ≡ true → b ≡ true
and_right a b e = ((and-eq-true_iff a b).0 e).1

pub zero-zeros : (n : ℕ) → all_zero (zeros n) ≡ true
zero-zeros zero = refl
zero-zeros (suc n) = zero-zeros n

-- ---- the presence bits
module _ (F : ℕ) where
  low_bit : (b : Bool) → eqb ((cond b 1 0 + 2 * F) / 2 ^ 0 % 2) 1 ≡ b
  low_bit true = let e : (1 + 2 * F) / 1 % 2 ≡ 1 = omega arith in rw e
  low_bit false = let e : (0 + 2 * F) / 1 % 2 ≡ 0 = omega arith in rw e

  half : (b : Bool) → (cond b 1 0 + 2 * F) / 2 ≡ F
  half true = omega arith
  half false = omega arith

-- bit k of the word that is made of flags is flag k
pub bit-flag : (k : ℕ) (bs : List Bool) → eqb (flags_of bs / 2 ^ k % 2) 1 ≡ get_or bs k false
bit-flag k [] = rw (zero-div (2 ^ k))
bit-flag zero (b ∷ bs) = low_bit (flags_of bs) b
bit-flag (suc k) (b ∷ bs) =
    rw (pow-succ' 2 k, ← (div-div-eq-div-mul (cond b 1 0 + 2 * flags_of bs) 2 (2 ^ k)), half (flags_of bs) b) (bit-flag k bs)
