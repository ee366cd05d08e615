-- The float sum of seconds and nanoseconds: its value in units of 2 ^ -1074, and that whole milliseconds are written exactly. Assumes nothing.
use mathlib.Core.Path.{◌≡◌, sym, ap, ◌∙◌, subst}
use mathlib.Core.Bool.{false}
use Prim.Native.Nat.{ℕ, ◌+◌, ◌*◌, ◌^◌, ◌≤◌, ◌<◌}
use native.Mathlib.Nat.{le_trans, le_of_eq, le_of_lt, lt_of_lt_of_le, lt_of_le_of_lt, mul-one, mul-lt-mul_of_pos_right}
use native.Mathlib.Nat.{mul_comm, mod-lt, lt_of_mul-lt-mul_right, mul_assoc, mul_right_comm, add-mul, mul-le-mul_right}
use native.Mathlib.Omega.{arith}
use lib.Dec.{T, lit<, lit≤}
use lib.IntN.{pos}
use lib.Pow.{pow_pos, pow-add}
use lib.Ieee.{Float, binary64, round, of_int, div}
use lib.Ieee.Exact.{HasValue}
use lib.Ieee.Back.{round_whole}
use lib.Ieee.Scale.{grid, round_val}
use Rattle.time_text.specs.Written.{float_sum, thousandths_of, small, billion}
use Rattle.time_text.proofs.Pattern.{at_value}
use Rattle.time_text.proofs.Rounding.{Near, closest-near, grid-over, grid-under, units-over, units_under, add_at, div-at, small_at}

-- ---- plain arithmetic. `omega` reads no number of more than 38 digits, so 2 ^ 1021 units are the variable h, and m is 2 ^ 1074, h * 2 ^ 53
split : (n : ℕ) → n * 2 ^ 1074 ≡ n * 2 ^ 1021 * 2 ^ 53
split n = ap (λ (k : ℕ). n * k) (pow-add 2 1021 53) ∙ sym (mul_assoc n (2 ^ 1021) (2 ^ 53))

module _ (m : ℕ) where
  quotient_le : (q t h : ℕ) → q * 1000000000 * 2 ≤ t * 2 + 1000000000 * h → t ≤ 2 ^ 32 * m → h ≤ m → q ≤ m * 5
  quotient_le q t h a b c = omega arith

  sum_lt : (q s : ℕ) → s ≤ 2 ^ 32 * m → q ≤ m * 5 → 0 < m → s + q < 2 ^ 33 * m
  sum_lt q s S a M = omega arith

  written-lt : (g a u : ℕ) → g * 2 ≤ a * 2 + u → a < 2 ^ 33 * m → u ≤ m → g < 2 ^ 53 * m
  written-lt g a u b c d = omega arith

  below-eight : (n : ℕ) → n < 2 ^ 32 * m → 0 < m → n < 2 ^ 3 * m * 1000000000
  below-eight n h M = omega arith

  time-quotient_le : (q t h : ℕ) → q * 1000000000 * 2 ≤ t * 2 + 1000000000 * h → t ≤ 1000000000 * m → h ≤ m → q ≤ m * 2
  time-quotient_le q t h a b c = omega arith

  time-lt : (q s : ℕ) → s ≤ 8388608 * m → q ≤ m * 2 → 0 < m → s + q < 2 ^ 24 * m
  time-lt q s S a M = omega arith

module _ (h w g q s n : ℕ) (H : 0 < h) where
  written_over : w * 2 ^ 53 * 2 ≤ g * 1000 * 2 + h * 2 ^ 53 → g * 2 ≤ (s * 2 ^ 53 + q) * 2 + h * 2 ^ 24 → q * 1000000000 * 2 ≤ n * 2 ^ 53 * 2 + 1000000000 * h
      → w * 2000000 < s * 2000000000 + n * 2 + h * 1000002
  written_over a b c = omega arith

  written-under : g * 1000 * 2 ≤ w * 2 ^ 53 * 2 + h * 2 ^ 53 → (s * 2 ^ 53 + q) * 2 ≤ g * 2 + h * 2 ^ 24 → n * 2 ^ 53 * 2 ≤ q * 1000000000 * 2 + 1000000000 * h
      → s * 2000000000 + n * 2 < w * 2000000 + h * 1000002
  written-under a b c = omega arith

-- ---- the quotient, what is rounded, and the sum, in units of 2 ^ -1074
abbrev Q : ℕ → ℕ
Q nanos = grid binary64 nanos 1000000000

abbrev A : ℕ → ℕ → ℕ
A secs nanos = secs * 2 ^ 1074 + Q nanos

abbrev G : ℕ → ℕ → ℕ
G secs nanos = grid binary64 (A secs nanos) (2 ^ 1074)

module _ (secs nanos : ℕ) (S : secs < 2 ^ 32) (N : nanos < 2 ^ 32) where
  Q-le : Q nanos ≤ 2 ^ 1074 * 5
  Q-le =
      quotient_le (2 ^ 1074) (Q nanos) (nanos * 2 ^ 1074) (2 ^ 1024)
      (grid-over nanos 1000000000 1077 (lit< tt) (below-eight (2 ^ 1074) (nanos * 2 ^ 1074) (mul-lt-mul_of_pos_right N (pow_pos 1074)) (pow_pos 1074)))
      (mul-le-mul_right (2 ^ 1074) (le_of_lt N)) (lit≤ tt)

  A-lt : A secs nanos < 2 ^ 1107
  A-lt = sum_lt (2 ^ 1074) (Q nanos) (secs * 2 ^ 1074) (mul-le-mul_right (2 ^ 1074) (le_of_lt S)) Q-le (pow_pos 1074)

  G-lt : G secs nanos < 2 ^ 53 * 2 ^ 1074
  G-lt = written-lt (2 ^ 1074) (G secs nanos) (A secs nanos) (2 ^ 1054) (units-over (A secs nanos) 1107 A-lt) A-lt (lit≤ tt)

  word_fits : (n : ℕ) → n < 2 ^ 32 → n ≤ 2 ^ 53
  word_fits n h = omega arith

  -- the quotient and the sum have those values
  quotient : HasValue (div binary64 (of_int binary64 (pos nanos)) billion) false (Q nanos) (2 ^ 1074)
  unfolding of_int
  quotient =
      subst (λ (k : Float). HasValue k false (Q nanos) (2 ^ 1074))
      (sym (div-at binary64 (round binary64 false nanos 1) 1953124 9 nanos 1 (lit< tt) (round_whole binary64 false nanos (word_fits nanos N))))
      (round_val binary64 nanos 1000000000 (lt_of_le_of_lt Q-le (lit< tt)))

  value : HasValue (float_sum secs nanos) false (G secs nanos) (2 ^ 1074)
  unfolding float_sum of_int
  value =
      subst (λ (k : Float). HasValue k false (G secs nanos) (2 ^ 1074))
      (sym (add_at binary64 (round binary64 false secs 1) (div binary64 (round binary64 false nanos 1) billion) secs 1 (Q nanos) (2 ^ 1074) (lit< tt) (pow_pos 1074)
      (round_whole binary64 false secs (word_fits secs S)) quotient
      ∙ ap (λ (k : ℕ). round binary64 false (secs * 2 ^ 1074 + k) (1 * 2 ^ 1074)) (mul-one (Q nanos))))
      (round_val binary64 (A secs nanos) (2 ^ 1074) (lt_of_lt_of_le G-lt (lit≤ tt)))

  pub sum-small : T (small (float_sum secs nanos))
  sum-small = small_at (float_sum secs nanos) (G secs nanos) (2 ^ 1074) (pow_pos 1074) value G-lt

-- ---- the written time of a time as it is stored
module _ (secs nanos : ℕ) (S : secs < 8388608) (N : nanos < 1000000000) where
  abbrev W : ℕ
  W = thousandths_of (float_sum secs nanos)

  below_one : nanos * 2 ^ 1074 < 2 ^ 1074 * 1000000000
  below_one = lt_of_lt_of_le (mul-lt-mul_of_pos_right N (pow_pos 1074)) (le_of_eq (mul_comm 1000000000 (2 ^ 1074)))

  Q-over : Q nanos * 1000000000 * 2 ≤ nanos * 2 ^ 1074 * 2 + 1000000000 * 2 ^ 1021
  Q-over = grid-over nanos 1000000000 1074 (lit< tt) below_one

  Q-under : nanos * 2 ^ 1074 * 2 ≤ Q nanos * 1000000000 * 2 + 1000000000 * 2 ^ 1021
  Q-under = grid-under nanos 1000000000 1074 (lit< tt) below_one

  time-A-lt : A secs nanos < 2 ^ 1098
  time-A-lt =
      time-lt (2 ^ 1074) (Q nanos) (secs * 2 ^ 1074) (mul-le-mul_right (2 ^ 1074) (le_of_lt S))
      (time-quotient_le (2 ^ 1074) (Q nanos) (nanos * 2 ^ 1074) (2 ^ 1021) Q-over (mul-le-mul_right (2 ^ 1074) (le_of_lt N)) (lit≤ tt)) (pow_pos 1074)

  G-over : G secs nanos * 2 ≤ A secs nanos * 2 + 2 ^ 1045
  G-over = units-over (A secs nanos) 1098 time-A-lt

  G-under : A secs nanos * 2 ≤ G secs nanos * 2 + 2 ^ 1045
  G-under = units_under (A secs nanos) 1098 time-A-lt

  near : Near W (G secs nanos * 1000) (2 ^ 1074)
  near =
      subst (λ (k : ℕ). Near k (G secs nanos * 1000) (2 ^ 1074))
      (sym (at_value (float_sum secs nanos) false (G secs nanos) (2 ^ 1074) (pow_pos 1074) (value secs nanos (lt_of_lt_of_le S (lit≤ tt)) (lt_of_lt_of_le N (lit≤ tt)))))
      (closest-near (G secs nanos * 1000) (2 ^ 1074) (mod-lt (G secs nanos * 1000) (pow_pos 1074)))

  -- twice the written time and twice the stored one, in nanoseconds, differ by less than 1000002
  pub over : W * 2000000 < secs * 2000000000 + nanos * 2 + 1000002
  over =
      cancel (2 ^ 1021) W secs nanos
      (written_over (2 ^ 1021) (W * 2 ^ 1021) (G secs nanos) (Q nanos) (secs * 2 ^ 1021) (nanos * 2 ^ 1021) (pow_pos 1021)
      (le_trans (le_of_eq (ap (λ (z : ℕ). z * 2) (sym (split W)))) near.over)
      (le_trans G-over (le_of_eq (ap (λ (z : ℕ). (z + Q nanos) * 2 + 2 ^ 1045) (split secs))))
      (le_trans Q-over (le_of_eq (ap (λ (z : ℕ). z * 2 + 1000000000 * 2 ^ 1021) (split nanos)))))
    where
      cancel : (h w s n : ℕ) → w * h * 2000000 < s * h * 2000000000 + n * h * 2 + h * 1000002 → w * 2000000 < s * 2000000000 + n * 2 + 1000002
      cancel h w s n a =
          lt_of_mul-lt-mul_right h (lt_of_le_of_lt (le_of_eq (mul_right_comm w 2000000 h))
          (lt_of_lt_of_le a (le_of_eq (ap (λ (z : ℕ). z + n * h * 2 + h * 1000002) (mul_right_comm s h 2000000000)
          ∙ ap (λ (z : ℕ). s * 2000000000 * h + z + h * 1000002) (mul_right_comm n h 2) ∙ ap (λ (z : ℕ). s * 2000000000 * h + n * 2 * h + z) (mul_comm h 1000002)
          ∙ ap (λ (z : ℕ). z + 1000002 * h) (sym (add-mul (s * 2000000000) (n * 2) h)) ∙ sym (add-mul (s * 2000000000 + n * 2) 1000002 h)))))

  pub under : secs * 2000000000 + nanos * 2 < W * 2000000 + 1000002
  under =
      cancel (2 ^ 1021) W secs nanos
      (written-under (2 ^ 1021) (W * 2 ^ 1021) (G secs nanos) (Q nanos) (secs * 2 ^ 1021) (nanos * 2 ^ 1021) (pow_pos 1021)
      (le_trans near.under (le_of_eq (ap (λ (z : ℕ). z * 2 + 2 ^ 1074) (split W))))
      (le_trans (le_of_eq (ap (λ (z : ℕ). (z + Q nanos) * 2) (sym (split secs)))) G-under)
      (le_trans (le_of_eq (ap (λ (z : ℕ). z * 2) (sym (split nanos)))) Q-under))
    where
      cancel : (h w s n : ℕ) → s * h * 2000000000 + n * h * 2 < w * h * 2000000 + h * 1000002 → s * 2000000000 + n * 2 < w * 2000000 + 1000002
      cancel h w s n a =
          lt_of_mul-lt-mul_right h (lt_of_le_of_lt (le_of_eq (add-mul (s * 2000000000) (n * 2) h
          ∙ ap (λ (z : ℕ). z + n * 2 * h) (mul_right_comm s 2000000000 h) ∙ ap (λ (z : ℕ). s * h * 2000000000 + z) (mul_right_comm n 2 h)))
          (lt_of_lt_of_le a
          (le_of_eq (ap (λ (z : ℕ). z + h * 1000002) (mul_right_comm w h 2000000) ∙ ap (λ (z : ℕ). w * 2000000 * h + z) (mul_comm h 1000002) ∙ sym (add-mul (w * 2000000) 1000002 h)))))

-- whole milliseconds are written exactly
pub whole-milliseconds : (s m : ℕ) → s < 8388608 → m < 1000 → thousandths_of (float_sum s (m * 1000000)) ≡ s * 1000 + m
whole-milliseconds s m S M =
    go (thousandths_of (float_sum s (m * 1000000))) (over s (m * 1000000) S (below m M)) (under s (m * 1000000) S (below m M))
  where
    below : (m : ℕ) → m < 1000 → m * 1000000 < 1000000000
    below m h = omega arith

    go : (w : ℕ) → w * 2000000 < s * 2000000000 + m * 1000000 * 2 + 1000002 → s * 2000000000 + m * 1000000 * 2 < w * 2000000 + 1000002 → w ≡ s * 1000 + m
    go w a b = omega arith
