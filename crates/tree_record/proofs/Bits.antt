-- A bit that isn't set is set by a sum, which changes no other bit and has no carry. Assumes nothing.
use Prim.Native.Nat.{ℕ, suc, ◌+◌, ◌-◌, ◌*◌, ◌/◌, ◌%◌, ◌^◌, min, ◌≤◌, ◌<◌}
use mathlib.Core.Path.{◌≡◌, refl, sym, ap, subst, ◌∙◌}
use mathlib.Core.Bool.{Bool, true, false}
use native.Mathlib.Omega.{arith}
use native.Mathlib.Nat.{one-mul, mul_comm, mul_assoc, min-eq_left, add-div_right, div-div-eq-div-mul, div-lt_iff_lt-mul, add-mul-div_left, add-mul-mod_self_left}
use borrow.Author.Tests.{leb-true, leb-false}
use lib.Dec.{leb, lit<}
use lib.Pow.{pow-add, pow_pos, shl_exact}
use Rattle.tree_record.specs.Record.{mask_of}

-- a higher power of two by a lower one
pub higher_power : (k j : ℕ) → k < j → 2 ^ j ≡ 2 ^ k * (2 * 2 ^ (j - suc k))
higher_power k j h =
    let e : j ≡ k + (1 + (j - suc k)) = omega arith in
    ap (λ (n : ℕ). 2 ^ n) e ∙ pow-add 2 k (1 + (j - suc k)) ∙ ap (λ (n : ℕ). 2 ^ k * n) (pow-add 2 1 (j - suc k))

-- the bit of value m set in n
module _ (n m : ℕ) (pos : 0 < m) (unset : n / m % 2 ≡ 1 → ⊥) where
  bit_now : (n + m) / m % 2 ≡ 1
  bit_now = ap (λ (q : ℕ). q % 2) (add-div_right n pos) ∙ omega arith

  half : (n + m) / (m * 2) ≡ n / (m * 2)
  half =
      let e : (n / m + 1) / 2 ≡ n / m / 2 = omega arith in
      sym (div-div-eq-div-mul (n + m) m 2) ∙ ap (λ (q : ℕ). q / 2) (add-div_right n pos) ∙ e ∙ div-div-eq-div-mul n m 2

  above : (w : ℕ) → (n + m) / (m * (2 * w)) ≡ n / (m * (2 * w))
  above w =
      let e : m * (2 * w) ≡ m * 2 * w = sym (mul_assoc m 2 w) in
      ap (λ (z : ℕ). (n + m) / z) e ∙ sym (div-div-eq-div-mul (n + m) (m * 2) w) ∙ ap (λ (q : ℕ). q / w) half
      ∙ div-div-eq-div-mul n (m * 2) w ∙ ap (λ (z : ℕ). n / z) (sym e)

  no-carry : (w : ℕ) → n < m * (2 * w) → n + m < m * (2 * w)
  no-carry w h =
      let e : m * (2 * w) ≡ w * (m * 2) = sym (mul_assoc m 2 w) ∙ mul_comm (m * 2) w in
      let p : 0 < m * 2 = omega arith in
      let q : n / (m * 2) < w = (div-lt_iff_lt-mul p).1 (subst (λ (z : ℕ). n < z) e h) in
      subst (λ (z : ℕ). n + m < z) (sym e) ((div-lt_iff_lt-mul p).0 (subst (λ (z : ℕ). z < w) (sym half) q))

below : (n p w : ℕ) → 0 < p → (n + p * (2 * w)) / p % 2 ≡ n / p % 2
below n p w pos = ap (λ (q : ℕ). q % 2) (add-mul-div_left n (2 * w) pos) ∙ add-mul-mod_self_left (n / p) 2 w

module _ (n k : ℕ) (unset : n / 2 ^ k % 2 ≡ 1 → ⊥) where
  pub bit-set : (n + 2 ^ k) / 2 ^ k % 2 ≡ 1
  bit-set = bit_now n (2 ^ k) (pow_pos k) unset

  pub bit-other : (j : ℕ) → (j ≡ k → ⊥) → (n + 2 ^ k) / 2 ^ j % 2 ≡ n / 2 ^ j % 2
  bit-other j h = go (leb j k) refl
    where
      go : (t : Bool) → leb j k ≡ t → (n + 2 ^ k) / 2 ^ j % 2 ≡ n / 2 ^ j % 2
      go true q =
          let l : j < k = (let p = leb-true j k q in omega arith) in
          ap (λ (z : ℕ). (n + z) / 2 ^ j % 2) (higher_power j k l) ∙ below n (2 ^ j) (2 ^ (k - suc j)) (pow_pos j)
      go false q =
          let e = higher_power k j (leb-false j k q) in
          ap (λ (z : ℕ). (n + 2 ^ k) / z % 2) e ∙ ap (λ (q : ℕ). q % 2) (above n (2 ^ k) (pow_pos k) unset (2 ^ (j - suc k))) ∙ ap (λ (z : ℕ). n / z % 2) (sym e)

  pub bit-fits : (j : ℕ) → k < j → n < 2 ^ j → n + 2 ^ k < 2 ^ j
  bit-fits j l h =
      let e = higher_power k j l in
      subst (λ (z : ℕ). n + 2 ^ k < z) (sym e) (no-carry n (2 ^ k) (pow_pos k) unset (2 ^ (j - suc k)) (subst (λ (z : ℕ). n < z) e h))

-- the code's masks
pub mask_power : (k : ℕ) → k ≤ 31 → mask_of k ≡ 2 ^ k
mask_power k h = ap (λ (z : ℕ). 2 ^ z) (min-eq_left h)

pub mask-past : (k : ℕ) → 31 < k → 2147483648 ≡ mask_of k
mask-past k h = let e : 31 ≡ min k 31 = omega arith in ap (λ (z : ℕ). 2 ^ z) e

pub mask_at : (k : ℕ) → k ≤ 31 → (1 * 2 ^ k) % 2 ^ 32 ≡ mask_of k
mask_at k h = shl_exact 1 k 32 (lit< tt) (omega arith) ∙ one-mul (2 ^ k) ∙ sym (mask_power k h)
