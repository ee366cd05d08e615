-- A time that is written in whole milliseconds is read back. Assumes nothing.
use Prim.Native.Nat.{ℕ, ◌+◌, ◌-◌, ◌*◌, ◌/◌, ◌%◌, ◌^◌, ◌<◌}
use mathlib.Core.Path.{◌≡◌, ap, ◌∙◌}
use mathlib.Core.List.{List, ◌∷◌, ◌++◌}
use mathlib.Core.Bool.{true}
use native.Mathlib.Omega.{arith}
use lib.ListN.{length}
use Rattle.time.specs.of_area.Answer.{gives}
use Rattle.time.specs.of_digits.Digits.{decimal, last_digits_of, value}
use Rattle.time.proofs.of_digits.Printing.{length_last, last_digits, last-value, decimal-digits, decimal-value}
use Rattle.time_text.specs.Written.{time_text, written_time}
use Rattle.time.specs.of_fraction.Fraction.{billionths}
use Rattle.time.specs.Time.{fraction, make_time, is_time, time_of}
use Rattle.time_text.proofs.Sum.{whole-milliseconds}
use Rattle.time.proofs.Points.{whole-between, fraction-between}
use Rattle.time.proofs.Times.{good-parts, time-parts, time-is}

-- a whole part, a point and a fraction are read as what they make
pub between-read : (w f : List ℕ) → make_time w f ≡ true → time_of (w ++ (0x2E ∷ f)) ≡ gives (value 10 w, billionths f)
between-read w f h =
    let d = (time-parts w f h).0 in
    let e = whole-between w f d in
    let g = fraction-between w f d in
    let i : is_time (w ++ (0x2E ∷ f)) ≡ true = ap (λ (l : List ℕ). make_time l (fraction (w ++ (0x2E ∷ f)))) e ∙ ap (λ (l : List ℕ). make_time w l) g ∙ h in
    time-is (w ++ (0x2E ∷ f)) i ∙ ap (λ (l : List ℕ). gives (value 10 l, billionths (fraction (w ++ (0x2E ∷ f))))) e ∙ ap (λ (l : List ℕ). gives (value 10 w, billionths l)) g

-- the text of s seconds and m milliseconds
pub text-read : (s m : ℕ) → s < 8388608 → m < 1000 → time_of (time_text (s * 1000 + m)) ≡ gives (s, m * 1000000)
unfolding time_text
text-read s m S M =
    let n = s * 1000 + m in
    let w = decimal (n / 1000) in
    let f = last_digits_of 3 n in
    let v : value 10 w ≡ s = decimal-value (n / 1000) (omega arith) ∙ quotient in
    let l : length f ≡ 3 = length_last 3 n in
    let p : value 10 f ≡ m = last-value 3 n ∙ remainder in
    between-read w f (good-parts w f (decimal-digits (n / 1000)) (last_digits 3 n) (omega arith) (omega arith) (omega arith))
    ∙ ap (λ (k : ℕ). gives (k, billionths f)) v
    ∙ ap (λ (k : ℕ). gives (s, k * 10 ^ (9 - length f))) p
    ∙ ap (λ (k : ℕ). gives (s, m * 10 ^ (9 - k))) l
  where
    quotient : (s * 1000 + m) / 1000 ≡ s
    quotient = omega arith

    remainder : (s * 1000 + m) % 1000 ≡ m
    remainder = omega arith

-- a time that is written and read
pub time-read-back : (s m : ℕ) → s < 8388608 → m < 1000 → time_of (written_time s (m * 1000000)) ≡ gives (s, m * 1000000)
time-read-back s m S M = ap (λ (n : ℕ). time_of (time_text n)) (whole-milliseconds s m S M) ∙ text-read s m S M
