-- How far rounding is off: `closest` by at most half, and `grid` by at most half of its unit. Assumes nothing.
use lib.Ieee.{nan}
use lib.Ieee.{inf}
use mathlib.Core.Path.{◌≡◌, sym, ap, ◌∙◌, subst}
use mathlib.Core.Bool.{true, false, not, true≢false}
use Prim.Native.Nat.{ℕ, zero, suc, ◌+◌, ◌-◌, ◌*◌, ◌/◌, ◌%◌, ◌^◌, ◌≤◌, ◌<◌, compare, Ordering}
use native.Mathlib.Nat.{le_trans, le_of_eq, le_of_lt, lt_of_lt_of_le, lt_of_le_of_lt, mul_comm, mul_assoc, mul_left_comm, mul_right_comm, add-mul, mul-one, suc-mul}
use native.Mathlib.Nat.{mul-le-mul_left, mul-lt-mul_of_pos_right, lt_of_mul-lt-mul_right, le_of_mul-le-mul_right, div-add-mod', div-lt_iff_lt-mul, mul-pos, mod-lt, zero-lt-suc}
use native.Mathlib.Omega.{arith}
use lib.Dec.{T, is_le, compare_is_eq, leb→le, nleb→lt, eqb→eq, lt→ltb, eqb-suc-zero}
use lib.IntN.{pos}
use lib.Pow.{pow_pos, pow_mono}
use lib.Ieee.{Float, fin, Format, binary64, up, down, size, nearest, round, add, sum, div}
use lib.Ieee.Digits.{size-le}
use lib.Ieee.Fits.{down_pos}
use lib.Ieee.Exact.{HasValue}
use lib.Ieee.Nearest.{closest}
use lib.Ieee.Order.{drop}
use lib.Ieee.Scale.{grid, round_same}
use Rattle.time_text.specs.Written.{small}

-- w is within a half of a / b
pub record Near (w a b : ℕ) : Type 0 where
  pub over : w * b * 2 ≤ a * 2 + b
  pub under : a * 2 ≤ w * b * 2 + b

module _ (a b q r : ℕ) (e : q * b + r ≡ a) where
  stay : r * 2 ≤ b → Near q a b
  stay h = record { over = omega arith; under = omega arith }

  step : r ≤ b → b ≤ r * 2 → Near (suc q) a b
  step l h =
      let s : suc q * b ≡ q * b + b = suc-mul q b in
      record { over = omega arith; under = omega arith }

  tie : (d : ℕ) → d < 2 → r * 2 ≡ b → Near (q + d) a b
  tie zero h t = subst (λ (k : ℕ). Near k a b) (go q) (stay (le_of_eq t))
    where
      go : (q : ℕ) → q ≡ q + 0
      go q = omega arith
  tie (suc d) h t = subst (λ (k : ℕ). Near k a b) (go q d h) (step (half r b t) (le_of_eq (sym t)))
    where
      go : (q d : ℕ) → suc d < 2 → suc q ≡ q + suc d
      go q d h = omega arith

      half : (r b : ℕ) → r * 2 ≡ b → r ≤ b
      half r b t = omega arith

  chosen : (o : Ordering) → (T (is_le o) → r * 2 ≤ b) → (T (not (is_le o)) → b < r * 2) → (T (compare_is_eq o) → r * 2 ≡ b) → r < b → Near (nearest q o) a b
  chosen Ordering.lt h k t l = stay (h tt)
  chosen Ordering.eq h k t l = tie (q % 2) (below q) (t tt)
    where
      below : (q : ℕ) → q % 2 < 2
      below q = omega arith
  chosen Ordering.gt h k t l = step (le_of_lt l) (le_of_lt (k tt))

pub closest-near : (a b : ℕ) → a % b < b → Near (closest a b) a b
closest-near a b l =
    chosen a b (a / b) (a % b) (div-add-mod' a b) (compare (a % b * 2) b) (leb→le (a % b * 2) b) (nleb→lt (a % b * 2) b) (eqb→eq (a % b * 2) b) l

-- ---- a / c rounded to an `f64`, in units of 2 ^ -1074: where the fraction is below 2 ^ (j - 1074) the unit is at most 2 ^ (j - 53) of those
module _ (a c j : ℕ) (C : 0 < c) (top : a * 2 ^ 1074 < 2 ^ j * c) where
  abbrev G : ℕ
  G = grid binary64 a c

  abbrev n : ℕ
  n = a * 2 ^ 1074

  abbrev k : ℕ
  k = drop 53 n c

  drop_le : k ≤ j - 53
  drop_le = go (size (n / c)) j (size-le (n / c) j ((div-lt_iff_lt-mul C).1 top))
    where
      go : (z j : ℕ) → z ≤ j → z - 53 ≤ j - 53
      go z j h = omega arith

  unit-le : c * 2 ^ k ≤ c * 2 ^ (j - 53)
  unit-le = mul-le-mul_left c (pow_mono drop_le)

  same : closest n (c * 2 ^ k) * (c * 2 ^ k) ≡ G * c
  same = ap (λ (x : ℕ). closest n (c * 2 ^ k) * x) (mul_comm c (2 ^ k)) ∙ sym (mul_assoc (closest n (c * 2 ^ k)) (2 ^ k) c)

  near : Near (closest n (c * 2 ^ k)) n (c * 2 ^ k)
  near = closest-near n (c * 2 ^ k) (mod-lt n (mul-pos C (pow_pos k)))

  pub grid-over : G * c * 2 ≤ a * 2 ^ 1074 * 2 + c * 2 ^ (j - 53)
  grid-over = go (closest n (c * 2 ^ k) * (c * 2 ^ k)) (G * c) n (c * 2 ^ k) (c * 2 ^ (j - 53)) same near.over unit-le
    where
      go : (p q n u v : ℕ) → p ≡ q → p * 2 ≤ n * 2 + u → u ≤ v → q * 2 ≤ n * 2 + v
      go p q n u v e h l = omega arith

  pub grid-under : a * 2 ^ 1074 * 2 ≤ G * c * 2 + c * 2 ^ (j - 53)
  grid-under = go (closest n (c * 2 ^ k) * (c * 2 ^ k)) (G * c) n (c * 2 ^ k) (c * 2 ^ (j - 53)) same near.under unit-le
    where
      go : (p q n u v : ℕ) → p ≡ q → n * 2 ≤ p * 2 + u → u ≤ v → n * 2 ≤ q * 2 + v
      go p q n u v e h l = omega arith

-- ---- a number a of units, rounded to an `f64`: the same below 2 ^ j of them
cancel : (m x y u : ℕ) → 0 < m → x * m * 2 ≤ y * m * 2 + m * u → x * 2 ≤ y * 2 + u
cancel m x y u M h =
    le_of_mul-le-mul_right {k = m}
    (le_trans (le_of_eq (mul_right_comm x 2 m)) (le_trans h (le_of_eq (ap (λ (z : ℕ). z + m * u) (mul_right_comm y m 2) ∙ ap (λ (z : ℕ). y * 2 * m + z) (mul_comm m u) ∙ sym (add-mul (y * 2) u m)))))
    M

module _ (a j : ℕ) (top : a < 2 ^ j) where
  abbrev m : ℕ
  m = 2 ^ 1074

  pub units-over : grid binary64 a m * 2 ≤ a * 2 + 2 ^ (j - 53)
  units-over = cancel m (grid binary64 a m) a (2 ^ (j - 53)) (pow_pos 1074) (grid-over a m j (pow_pos 1074) (mul-lt-mul_of_pos_right top (pow_pos 1074)))

  pub units_under : a * 2 ≤ grid binary64 a m * 2 + 2 ^ (j - 53)
  units_under = cancel m a (grid binary64 a m) (2 ^ (j - 53)) (pow_pos 1074) (grid-under a m j (pow_pos 1074) (mul-lt-mul_of_pos_right top (pow_pos 1074)))

-- ---- a sum and a quotient of two values that are not negative, by the fractions that they equal
cross : (P Q E D a b c d : ℕ) → P * c ≡ a * E → Q * d ≡ b * D → (P * D + Q * E) * (c * d) ≡ (a * d + b * c) * (E * D)
cross P Q E D a b c d x y =
    let l : P * D * (c * d) ≡ P * c * (D * d) = simp (mul_assoc, mul_left_comm) in
    let l' : a * E * (D * d) ≡ a * d * (E * D) = simp (mul_assoc, mul_comm, mul_left_comm) in
    let r : Q * E * (c * d) ≡ Q * d * (E * c) = simp (mul_assoc, mul_comm, mul_left_comm) in
    let r' : b * D * (E * c) ≡ b * c * (E * D) = simp (mul_assoc, mul_comm, mul_left_comm) in
    let p : P * D * (c * d) ≡ a * d * (E * D) = l ∙ ap (λ (z : ℕ). z * (D * d)) x ∙ l' in
    let q : Q * E * (c * d) ≡ b * c * (E * D) = r ∙ ap (λ (z : ℕ). z * (E * c)) y ∙ r' in
    add-mul (P * D) (Q * E) (c * d) ∙ ap (λ (z : ℕ). z + Q * E * (c * d)) p ∙ ap (λ (z : ℕ). a * d * (E * D) + z) q ∙ sym (add-mul (a * d) (b * c) (E * D))

pub add_at : (f : Format) (x y : Float) (a c b d : ℕ) → 0 < c → 0 < d → HasValue x false a c → HasValue y false b d → add f x y ≡ round f false (a * d + b * c) (c * d)
unfolding add sum
add_at f nan y a c b d C D v w = elim v [ ]
add_at f (inf _) y a c b d C D v w = elim v [ ]
add_at f (fin false m e) nan a c b d C D v w = elim w [ ]
add_at f (fin false m e) (inf _) a c b d C D v w = elim w [ ]
add_at f (fin true m e) y a c b d C D v w = absurd (true≢false v.0)
add_at f (fin false m e) (fin true n g) a c b d C D v w = absurd (true≢false w.0)
add_at f (fin false m e) (fin false n g) a c b d C D v w =
    round_same f false (m * up e * down g + n * up g * down e) (down e * down g) (a * d + b * c) (c * d) (mul-pos (down_pos e) (down_pos g)) (mul-pos C D)
    (cross (m * up e) (n * up g) (down e) (down g) a b c d v.1 w.1)

-- by a float that is written n * 2 ^ i
pub div-at : (f : Format) (x : Float) (n i a c : ℕ) → 0 < c → HasValue x false a c → div f x (fin false (suc n) (pos i)) ≡ round f false a (c * (suc n * 2 ^ i))
unfolding div
div-at f nan n i a c C v = elim v [ ]
div-at f (inf _) n i a c C v = elim v [ ]
div-at f (fin true m e) n i a c C v = absurd (true≢false v.0)
div-at f (fin false m e) n i a c C v =
    rw (eqb-suc-zero n)
    (round_same f false (m * up e * 1) (suc n * 2 ^ i * down e) a (c * (suc n * 2 ^ i)) (mul-pos (mul-pos (zero-lt-suc n) (pow_pos i)) (down_pos e)) (mul-pos C (mul-pos (zero-lt-suc n) (pow_pos i)))
    (go (m * up e) a c (down e) (suc n * 2 ^ i) v.1))
  where
    go : (P a c E N : ℕ) → P * c ≡ a * E → P * 1 * (c * N) ≡ a * (N * E)
    go P a c E N h =
        ap (λ (z : ℕ). z * (c * N)) (mul-one P) ∙ sym (mul_assoc P c N) ∙ ap (λ (z : ℕ). z * N) h ∙ mul_assoc a E N ∙ ap (λ (z : ℕ). a * z) (mul_comm E N)

pub small_at : (x : Float) (a c : ℕ) → 0 < c → HasValue x false a c → a < 2 ^ 53 * c → T (small x)
unfolding small
small_at nan a c C v h = elim v [ ]
small_at (inf _) a c C v h = elim v [ ]
small_at (fin true m e) a c C v h = absurd (true≢false v.0)
small_at (fin false m e) a c C v h =
    lt→ltb (m * up e) (2 ^ 53 * down e)
    (lt_of_mul-lt-mul_right c (lt_of_le_of_lt (le_of_eq v.1) (lt_of_lt_of_le (mul-lt-mul_of_pos_right h (down_pos e)) (le_of_eq (mul_right_comm (2 ^ 53) c (down e))))))
