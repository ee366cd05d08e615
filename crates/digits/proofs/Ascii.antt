-- The bytes that are digits. Assumes nothing.
use Prim.Native.Nat.{ℕ, zero, suc, ◌-◌, ◌≤◌, ◌<◌}
use mathlib.Core.Path.{◌≡◌, refl}
use mathlib.Core.List.{List, [], ◌∷◌}
use mathlib.Core.Bool.{Bool, true, false, cond, ◌&&◌, and-eq-true_iff}
use mathlib.Core.Logic.{◌⊎◌, inl, inr}
use native.Mathlib.Omega.{arith}
use borrow.Author.Tests.{leb-true, ltb-true, eqb-true}
use lib.Dec.{leb, ltb, eqb}
use lib.ListN.{length, get_or}
use Rattle.digits.specs.Digits.{digit, is_digit, all_digits}

within : (lo hi b : ℕ) → (leb lo b && leb b hi) ≡ true → (lo ≤ b) × (b ≤ hi)
within lo hi b e = let p = (and-eq-true_iff (leb lo b) (leb b hi)).0 e in (leb-true lo b p.0, leb-true b hi p.1)

module _ (base b : ℕ) where
  -- 0 to 9, and in base 16 a to f and A to F
  pub digit-class : is_digit base b ≡ true → ((0x30 ≤ b) × (b ≤ 0x39)) ⊎ ((base ≡ 16) × (((0x61 ≤ b) × (b ≤ 0x66)) ⊎ ((0x41 ≤ b) × (b ≤ 0x46))))
  unfolding digit
  digit-class e =
      go (leb 0x30 b && leb b 0x39) refl (eqb base 16 && (leb 0x61 b && leb b 0x66)) refl (eqb base 16 && (leb 0x41 b && leb b 0x46)) refl e
    where
      go : (p : Bool) → (leb 0x30 b && leb b 0x39) ≡ p → (q : Bool) → (eqb base 16 && (leb 0x61 b && leb b 0x66)) ≡ q → (r : Bool) → (eqb base 16 && (leb 0x41 b && leb b 0x46)) ≡ r
          → ltb (cond p (b - 0x30) (cond q (b - 0x57) (cond r (b - 0x37) base))) base ≡ true
          → ((0x30 ≤ b) × (b ≤ 0x39)) ⊎ ((base ≡ 16) × (((0x61 ≤ b) × (b ≤ 0x66)) ⊎ ((0x41 ≤ b) × (b ≤ 0x46))))
      go true p q _ r _ e = inl (within 0x30 0x39 b p)
      go false p true q r _ e = let k = (and-eq-true_iff (eqb base 16) (leb 0x61 b && leb b 0x66)).0 q in inr (eqb-true base 16 k.0, inl (within 0x61 0x66 b k.1))
      go false p false q true r e = let k = (and-eq-true_iff (eqb base 16) (leb 0x41 b && leb b 0x46)).0 r in inr (eqb-true base 16 k.0, inr (within 0x41 0x46 b k.1))
      go false p false q false r e = let h = ltb-true base base e in absurd (omega arith)

  -- a digit of any base is one ASCII byte
  pub digit-ascii : is_digit base b ≡ true → b < 0x80
  digit-ascii e = go (digit-class e)
    where
      go : ((0x30 ≤ b) × (b ≤ 0x39)) ⊎ ((base ≡ 16) × (((0x61 ≤ b) × (b ≤ 0x66)) ⊎ ((0x41 ≤ b) × (b ≤ 0x46)))) → b < 0x80
      go (inl h) = omega arith
      go (inr (h, inl k)) = omega arith
      go (inr (h, inr k)) = omega arith

-- a decimal digit lies between `0` and `9`
pub digit-decimal : (b : ℕ) → is_digit 10 b ≡ true → (0x30 ≤ b) × (b ≤ 0x39)
digit-decimal b e = go (digit-class 10 b e)
  where
    go : ((0x30 ≤ b) × (b ≤ 0x39)) ⊎ ((◌≡◌ {A = ℕ} 10 16) × (((0x61 ≤ b) × (b ≤ 0x66)) ⊎ ((0x41 ≤ b) × (b ≤ 0x46)))) → (0x30 ≤ b) × (b ≤ 0x39)
    go (inl h) = h
    go (inr (h, k)) = absurd (omega arith)

-- each byte of a text of digits
pub digit_at : (base : ℕ) (s : List ℕ) → all_digits base s ≡ true → (i : ℕ) → i < length s → is_digit base (get_or s i 0) ≡ true
digit_at base [] e i h = absurd (omega arith)
digit_at base (b ∷ s) e zero h = ((and-eq-true_iff (is_digit base b) (all_digits base s)).0 e).0
digit_at base (b ∷ s) e (suc i) h = digit_at base s ((and-eq-true_iff (is_digit base b) (all_digits base s)).0 e).1 i (omega arith)

pub digits-ascii : (base : ℕ) (s : List ℕ) → all_digits base s ≡ true → (i : ℕ) → i < length s → get_or s i 0 < 0x80
digits-ascii base s e i h = digit-ascii base (get_or s i 0) (digit_at base s e i h)
