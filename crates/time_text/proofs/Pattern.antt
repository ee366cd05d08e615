-- What the bit pattern of an `f64` that is not negative and below 2 ^ 53 says of its nearest thousandth. Assumes nothing.
use mathlib.Core.Path.{◌≡◌, refl, sym, ap, ◌∙◌, subst}
use mathlib.Core.Bool.{Bool, true, false, not, cond}
use Prim.Native.Nat.{ℕ, zero, suc, ◌+◌, ◌-◌, ◌*◌, ◌/◌, ◌%◌, ◌^◌, ◌≤◌, ◌<◌, zero-le, compare, Ordering}
use native.Mathlib.Nat.{le_trans, le_of_eq, le_antisymm, lt_of_lt_of_le, lt_of_le_of_lt, lt_of_not-le, lt_irrefl, le_of_lt, mul_comm, mul_assoc}
use native.Mathlib.Nat.{mul_right_comm, mul-le-mul_right, mul-lt-mul_of_pos_right, lt_of_mul-lt-mul_right, le-add_right, one-mul, mod-lt, mod-eq_of_lt}
use native.Mathlib.Omega.{arith}
use lib.Dec.{T, leb, ltb, eqb, is_le, compare_is_eq, ltb→lt, leb→le, nleb→lt, eqb→eq, eqb_refl, lit≤, lit<}
use lib.Pow.{pow-add, pow_pos, pow_mono, shl_exact}
use lib.Bits.{bit_and, bit_or, and_mask, or_shifted_r}
use lib.Ieee.{Float, nan, inf, fin, binary64, up, down, odd, fits, is_nan, of_fields, of_bits, to_bits, nearest}
use lib.Ieee.Fits.{down_pos, and_l, and_r}
use lib.Ieee.Bits.{of_bits-to_bits}
use lib.Ieee.Exact.{HasValue, odd_sign}
use lib.Ieee.Nearest.{closest, closest_mono, closest_same}
use Rattle.time_text.specs.Written.{thousandths_of, small}

-- ---- a value that is a / c has the thousandths of a / c
pub at_value : (x : Float) (s : Bool) (a c : ℕ) → 0 < c → HasValue x s a c → thousandths_of x ≡ closest (a * 1000) c
unfolding thousandths_of
at_value nan s a c C v = absurd v
at_value (inf t) s a c C v = absurd v
at_value (fin t m e) s a c C v =
    closest_same (m * up e * 1000) (down e) (a * 1000) c (down_pos e) C
    (mul_right_comm (m * up e) 1000 c ∙ ap (λ (k : ℕ). k * 1000) v.1 ∙ mul_right_comm a (down e) 1000)

clear : (s : Bool) → T (not s) → s ≡ false
clear true t = absurd t
clear false t = refl

under-value : (x : Float) (s : Bool) (a c : ℕ) → 0 < c → T (small x) → HasValue x s a c → (s ≡ false) × (a < 2 ^ 53 * c)
unfolding small
under-value nan s a c C t v = absurd v
under-value (inf u) s a c C t v = absurd v
under-value (fin u m e) s a c C t v =
    let h : m * up e < 2 ^ 53 * down e = ltb→lt (m * up e) (2 ^ 53 * down e) (and_r (not u) (ltb (m * up e) (2 ^ 53 * down e)) t) in (
      sym v.0 ∙ clear u (and_l (not u) (ltb (m * up e) (2 ^ 53 * down e)) t),
      lt_of_mul-lt-mul_right (down e) (lt_of_le_of_lt (le_of_eq (sym v.1)) (lt_of_lt_of_le (mul-lt-mul_of_pos_right h C) (le_of_eq (mul_right_comm (2 ^ 53) (down e) c)))),
    )

pub no_nan : (x : Float) → T (small x) → T (not (is_nan x))
unfolding small is_nan
no_nan nan t = absurd t
no_nan (inf s) t = tt
no_nan (fin s m e) t = tt

-- ---- the fields: a field x and digits t are `sized x t` units of 2 ^ -1074
abbrev sized : ℕ → ℕ → ℕ
sized zero t = t * 2 ^ 0
sized (suc j) t = (2 ^ 52 + t) * 2 ^ j

finite-below : (a b s : Bool) (v : Float) → T (small (cond a (cond b (inf s) nan) v)) → cond a (cond b (inf s) nan) v ≡ v
unfolding small
finite-below true true s v p = absurd p
finite-below true false s v p = absurd p
finite-below false b s v p = refl

fields : (s : Bool) (x t : ℕ) → T (small (of_fields binary64 s x t)) → HasValue (of_fields binary64 s x t) s (sized x t) (2 ^ 1074)
unfolding of_fields
fields s zero t p = odd_sign 53 s t 0 1074
fields s (suc j) t p =
    subst (λ (k : Float). HasValue k s ((2 ^ 52 + t) * 2 ^ j) (2 ^ 1074))
    (sym (finite-below (eqb (suc j) 2047) (eqb t 0) s (odd 53 s (2 ^ 52 + t) j 1074) p))
    (odd_sign 53 s (2 ^ 52 + t) j 1074)

of_bits_is : (b : ℕ) → of_bits binary64 b ≡ of_fields binary64 (leb (2 ^ 63) b) (b % 2 ^ 63 / 2 ^ 52) (b % 2 ^ 52)
unfolding of_bits
of_bits_is b = refl

no : {b : Bool} → b ≡ false → T (not b)
no h = subst (λ (a : Bool). T (not a)) (sym h) tt

-- the value of a pattern, by its exponent's field and its digits
pattern : (b : ℕ) → T (small (of_bits binary64 b)) → HasValue (of_bits binary64 b) false (sized (b / 2 ^ 52) (b % 2 ^ 52)) (2 ^ 1074) × (sized (b / 2 ^ 52) (b % 2 ^ 52) < 2 ^ 53 * 2 ^ 1074)
pattern b p =
    let s = leb (2 ^ 63) b in
    let x = b % 2 ^ 63 / 2 ^ 52 in
    let t = b % 2 ^ 52 in
    let y = of_fields binary64 s x t in
    let q : T (small y) = subst (λ (k : Float). T (small k)) (of_bits_is b) p in
    let v : HasValue y s (sized x t) (2 ^ 1074) = fields s x t q in
    let u = under-value y s (sized x t) (2 ^ 1074) (pow_pos 1074) q v in
    let e : x ≡ b / 2 ^ 52 = ap (λ (k : ℕ). k / 2 ^ 52) (mod-eq_of_lt (nleb→lt (2 ^ 63) b (no u.0))) in
    let w : HasValue (of_bits binary64 b) false (sized x t) (2 ^ 1074) =
    subst (λ (k : Bool). HasValue (of_bits binary64 b) k (sized x t) (2 ^ 1074)) u.0
    (subst (λ (k : Float). HasValue k s (sized x t) (2 ^ 1074)) (sym (of_bits_is b)) v) in
    subst (λ (k : ℕ). HasValue (of_bits binary64 b) false (sized k t) (2 ^ 1074) × (sized k t < 2 ^ 53 * 2 ^ 1074)) e (w, u.1)

-- ---- the exponent's field is at most 1075
pow_lt_back : (i p : ℕ) → 2 ^ i < 2 ^ p → i < p
pow_lt_back i p h = lt_of_not-le (λ (g : p ≤ i). lt_irrefl (2 ^ i) (lt_of_lt_of_le h (pow_mono g)))

field-le : (x t : ℕ) → sized x t < 2 ^ 53 * 2 ^ 1074 → x ≤ 1075
field-le zero t h = zero-le
field-le (suc j) t h = go j (pow_lt_back (52 + j) 1127 (lt_of_le_of_lt (le_trans (le_of_eq (pow-add 2 52 j)) (mul-le-mul_right (2 ^ j) (le-add_right (2 ^ 52) t))) h))
  where
    go : (j : ℕ) → 52 + j < 1127 → suc j ≤ 1075
    go j h = omega arith

-- ---- a fraction up to a half goes to 0
to-zero : (a b : ℕ) → 0 < b → a * 2 ≤ b → 0 ≡ closest a b
to-zero a b B h = le_antisymm zero-le (closest_mono a b 1 2 B (lit< tt) (le_trans h (le_of_eq (sym (one-mul b)))))

with_lead : (t : ℕ) → t < 2 ^ 52 → 2 ^ 52 + t < 2 ^ 53
with_lead t h = omega arith

-- a product of 1000 and a number of 53 digits is below 2 ^ 63
thousand : (q : ℕ) → q < 2 ^ 53 → q * 1000 * 2 < 2 ^ 64
thousand q h = omega arith

join : (j : ℕ) → j ≤ 1074 → 1074 - j + j ≡ 1074
join j h = omega arith

-- q * 2 ^ j units, in the fraction's own unit
rescaled : (q j : ℕ) → j ≤ 1074 → closest (q * 2 ^ j * 1000) (2 ^ 1074) ≡ closest (q * 1000) (2 ^ (1074 - j))
rescaled q j h =
    closest_same (q * 2 ^ j * 1000) (2 ^ 1074) (q * 1000) (2 ^ (1074 - j)) (pow_pos 1074) (pow_pos (1074 - j))
    (ap (λ (k : ℕ). k * 2 ^ (1074 - j)) (mul_right_comm q (2 ^ j) 1000)
    ∙ mul_assoc (q * 1000) (2 ^ j) (2 ^ (1074 - j))
    ∙ ap (λ (k : ℕ). q * 1000 * k) (mul_comm (2 ^ j) (2 ^ (1074 - j)) ∙ sym (pow-add 2 (1074 - j) j) ∙ ap (λ (k : ℕ). 2 ^ k) (join j h)))

far_off : (x t : ℕ) → t < 2 ^ 52 → x ≤ 1075 → 64 ≤ 1075 - x → 0 ≡ closest (sized x t * 1000) (2 ^ 1074)
far_off zero t h l g =
    to-zero (t * 1 * 1000) (2 ^ 1074) (pow_pos 1074) (le_trans (go t h) (pow_mono (lit≤ {m = 64} {n = 1074} tt)))
  where
    go : (t : ℕ) → t < 2 ^ 52 → t * 1 * 1000 * 2 ≤ 2 ^ 64
    go t h = omega arith
far_off (suc j) t h l g =
    to-zero ((2 ^ 52 + t) * 1000) (2 ^ (1074 - j)) (pow_pos (1074 - j)) (le_trans (le_of_lt (thousand (2 ^ 52 + t) (with_lead t h))) (pow_mono (go j g)))
    ∙ sym (rescaled (2 ^ 52 + t) j (ge j l))
  where
    go : (j : ℕ) → 64 ≤ 1075 - suc j → 64 ≤ 1074 - j
    go j g = omega arith

    ge : (j : ℕ) → suc j ≤ 1075 → j ≤ 1074
    ge j g = omega arith

close-by : (x t : ℕ) → x ≤ 1075 → 1075 - x < 64 → closest (sized x t * 1000) (2 ^ 1074) ≡ closest ((2 ^ 52 + t) * 1000) (2 ^ (1075 - x))
close-by zero t l g = absurd (lt_irrefl 64 (lt_of_le_of_lt (lit≤ tt) g))
close-by (suc j) t l g = rescaled (2 ^ 52 + t) j (ge j l) ∙ ap (λ (k : ℕ). closest ((2 ^ 52 + t) * 1000) (2 ^ k)) (same j)
  where
    ge : (j : ℕ) → suc j ≤ 1075 → j ≤ 1074
    ge j g = omega arith

    same : (j : ℕ) → 1074 - j ≡ 1075 - suc j
    same j = omega arith

-- ---- `closest`, by the three ways in which twice the remainder compares with the divisor
module _ (w a b : ℕ) where
  abbrev Told : Ordering → Type 0
  Told o = (T (is_le o) → a ≤ b) × (T (not (is_le o)) → b < a) × (T (compare_is_eq o) → a ≡ b) × (a ≡ b → T (compare_is_eq o))

  told : Told (compare a b)
  told = (leb→le a b, nleb→lt a b, eqb→eq a b, λ (e : a ≡ b). subst (λ (x : ℕ). T (eqb a x)) e (eqb_refl a))

  lower : (o : Ordering) → Told o → a < b → w ≡ nearest w o
  lower Ordering.lt k h = refl
  lower Ordering.eq k h = absurd (ne (k.2 tt))
    where
      ne : a ≡ b → ⊥
      ne e = omega arith
  lower Ordering.gt k h = absurd (ne (k.1 tt))
    where
      ne : b < a → ⊥
      ne e = omega arith

  upper : (o : Ordering) → Told o → b < a → w + 1 ≡ nearest w o
  upper Ordering.lt k h = absurd (ne (k.0 tt))
    where
      ne : a ≤ b → ⊥
      ne e = omega arith
  upper Ordering.eq k h = absurd (ne (k.2 tt))
    where
      ne : a ≡ b → ⊥
      ne e = omega arith
  upper Ordering.gt k h = omega arith

  level : (o : Ordering) → Told o → a ≡ b → w + w % 2 ≡ nearest w o
  level Ordering.lt k h = absurd (k.3 h)
  level Ordering.eq k h = refl
  level Ordering.gt k h = absurd (k.3 h)

-- ---- what the proof of `nearest_thousandth` cites
digits_are : (b : ℕ) → bit_or (bit_and b (2 ^ 52 - 1)) (2 ^ 52) ≡ 2 ^ 52 + b % 2 ^ 52
digits_are b = ap (λ (k : ℕ). bit_or k (2 ^ 52)) (and_mask b 52) ∙ or_shifted_r 1 52 (b % 2 ^ 52) (mod-lt b (pow_pos 52))

unit-is : (k : ℕ) → k < 64 → 1 * 2 ^ k % 2 ^ 64 ≡ 2 ^ k
unit-is k h = shl_exact 1 k 64 (lit< tt) (go k h) ∙ one-mul (2 ^ k)
  where
    go : (k : ℕ) → k < 64 → 1 + k ≤ 64
    go k h = omega arith

module _ (x : Float) (F : T (fits binary64 x)) (S : T (small x)) where
  abbrev pub b : ℕ
  b = to_bits binary64 x

  abbrev pub D : ℕ
  D = bit_or (bit_and b (2 ^ 52 - 1)) (2 ^ 52)

  abbrev pub K : ℕ
  K = 1075 - b / 2 ^ 52

  abbrev pub U : ℕ
  U = 1 * 2 ^ K % 2 ^ 64

  abbrev Z : ℕ
  Z = sized (b / 2 ^ 52) (b % 2 ^ 52)

  shape : HasValue x false Z (2 ^ 1074) × (Z < 2 ^ 53 * 2 ^ 1074)
  shape =
      subst (λ (k : Float). HasValue k false Z (2 ^ 1074) × (Z < 2 ^ 53 * 2 ^ 1074)) (of_bits-to_bits binary64 x F)
      (pattern b (subst (λ (k : Float). T (small k)) (sym (of_bits-to_bits binary64 x F)) S))

  small-digits : b % 2 ^ 52 < 2 ^ 52
  small-digits = mod-lt b (pow_pos 52)

  pub exponent_le : b / 2 ^ 52 ≤ 1075
  exponent_le = field-le (b / 2 ^ 52) (b % 2 ^ 52) shape.1

  pub far : 64 ≤ K → 0 ≡ thousandths_of x
  far h = far_off (b / 2 ^ 52) (b % 2 ^ 52) small-digits exponent_le h ∙ sym (at_value x false Z (2 ^ 1074) (pow_pos 1074) shape.0)

  pub all-fits : D * 1000 * 2 < 2 ^ 64
  all-fits = subst (λ (k : ℕ). k * 1000 * 2 < 2 ^ 64) (sym (digits_are b)) (thousand (2 ^ 52 + b % 2 ^ 52) (with_lead (b % 2 ^ 52) small-digits))

  pub unit-pos : K < 64 → 0 < U
  unit-pos h = subst (λ (k : ℕ). 0 < k) (sym (unit-is K h)) (pow_pos K)

  near : K < 64 → closest (D * 1000) U ≡ thousandths_of x
  near h =
      ap (λ (k : ℕ). closest (D * 1000) k) (unit-is K h)
      ∙ ap (λ (k : ℕ). closest (k * 1000) (2 ^ K)) (digits_are b)
      ∙ sym (close-by (b / 2 ^ 52) (b % 2 ^ 52) exponent_le h)
      ∙ sym (at_value x false Z (2 ^ 1074) (pow_pos 1074) shape.0)

  pub lower-is : K < 64 → D * 1000 % U * 2 < U → D * 1000 / U ≡ thousandths_of x
  lower-is h l = lower (D * 1000 / U) (D * 1000 % U * 2) U (compare (D * 1000 % U * 2) U) (told (D * 1000 / U) (D * 1000 % U * 2) U) l ∙ near h

  pub upper_is : K < 64 → U < D * 1000 % U * 2 → D * 1000 / U + 1 ≡ thousandths_of x
  upper_is h l = upper (D * 1000 / U) (D * 1000 % U * 2) U (compare (D * 1000 % U * 2) U) (told (D * 1000 / U) (D * 1000 % U * 2) U) l ∙ near h

  pub level-is : K < 64 → D * 1000 % U * 2 ≡ U → D * 1000 / U + D * 1000 / U % 2 ≡ thousandths_of x
  level-is h l = level (D * 1000 / U) (D * 1000 % U * 2) U (compare (D * 1000 % U * 2) U) (told (D * 1000 / U) (D * 1000 % U * 2) U) l ∙ near h
