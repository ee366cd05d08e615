-- Digits printed, and what was printed read back. Assumes nothing.
use Prim.Native.Nat.{ℕ, zero, suc, ◌+◌, ◌-◌, ◌*◌, ◌/◌, ◌%◌, ◌^◌, ◌≤◌, ◌<◌, min}
use mathlib.Core.Path.{◌≡◌, refl, sym, ap, ◌∙◌}
use mathlib.Core.List.{List, [], ◌∷◌, ◌++◌}
use mathlib.Core.Bool.{Bool, true, false, cond, and-eq-true_iff}
use native.Mathlib.Nat.{zero-lt-suc, lt_of_lt_of_le, mod-lt, mod-one, mod-eq_of_lt, mul-add-mod_self_right, div-add-mod', one-le-pow, mul_assoc, pow-suc, div-lt_iff_lt-mul, min-eq_left}
use native.Mathlib.Numerals.{add-one}
use native.Mathlib.Omega.{arith}
use borrow.Author.Tests.{lt-ltb, le-ltb, le-leb, ltb-true}
use lib.Dec.{leb, ltb, lit<, lit≤}
use lib.ListN.{length, take, drop, length-append}
use lib.Seq.{take_at}
use Rattle.utf8.specs.of_area.Area.{zeros}
use Rattle.std.specs.Prelude.{Some}
use Rattle.digits.specs.Digits.{digit, is_digit, all_digits, value, is_number, number_in, last_digits_of, places_in, places, decimal}
use Rattle.digits.proofs.Values.{append-value, append-digits}
use Rattle.digits.proofs.Numbers.{number-whole, number_is}

-- the byte of a decimal digit
digit-byte : (d : ℕ) → d < 10 → digit 10 (0x30 + d) ≡ d
unfolding digit
digit-byte d h =
    ap (λ (t : Bool). cond t (0x30 + d - 0x30) (cond false (0x30 + d - 0x57) (cond false (0x30 + d - 0x37) 10)))
    ((and-eq-true_iff (leb 0x30 (0x30 + d)) (leb (0x30 + d) 0x39)).1 (le-leb 0x30 (0x30 + d) (omega arith), le-leb (0x30 + d) 0x39 (omega arith)))
    ∙ back d
  where
    back : (d : ℕ) → 0x30 + d - 0x30 ≡ d
    back d = omega arith

last_byte : (n : ℕ) → digit 10 (0x30 + n % 10) ≡ n % 10
last_byte n = digit-byte (n % 10) (mod-lt n (lit< tt))

-- the remainder by p * 10, from that of the front by p and the last digit
mod_on : (n p : ℕ) → 0 < p → n / 10 % p * 10 + n % 10 ≡ n % (p * 10)
mod_on n p h =
    let q = n / 10 / p in
    let r = n / 10 % p in
    let a : q * p + r ≡ n / 10 = div-add-mod' (n / 10) p in
    let b : q * p * 10 ≡ q * (p * 10) = mul_assoc q p 10 in
    let l : r < p = mod-lt (n / 10) h in
    let e : n ≡ q * (p * 10) + (r * 10 + n % 10) = omega arith in
    sym (ap (λ (x : ℕ). x % (p * 10)) e ∙ mul-add-mod_self_right q (p * 10) (r * 10 + n % 10) ∙ mod-eq_of_lt (omega arith))

-- the last k digits read back: the number modulo the power of ten
pub last-value : (k n : ℕ) → value 10 (last_digits_of k n) ≡ n % 10 ^ k
last-value zero n = sym (mod-one n)
last-value (suc k) n =
    append-value 10 0 (last_digits_of k (n / 10)) ((0x30 + n % 10) ∷ [])
    ∙ ap (λ (v : ℕ). v * 10 + digit 10 (0x30 + n % 10)) (last-value k (n / 10))
    ∙ ap (λ (d : ℕ). n / 10 % 10 ^ k * 10 + d) (last_byte n)
    ∙ mod_on n (10 ^ k) (one-le-pow k 10 (lit< tt))
    ∙ ap (λ (p : ℕ). n % p) (sym (pow-suc 10 k))

-- there are k last digits, with zeros in front where the number is short
pub length_last : (k n : ℕ) → length (last_digits_of k n) ≡ k
length_last zero n = refl
length_last (suc k) n = length-append (last_digits_of k (n / 10)) ((0x30 + n % 10) ∷ []) ∙ ap (λ (x : ℕ). x + 1) (length_last k (n / 10)) ∙ add-one k

-- each of the last k digits is a digit, whatever the number
pub last_digits : (k n : ℕ) → all_digits 10 (last_digits_of k n) ≡ true
last_digits zero n = refl
last_digits (suc k) n =
    append-digits 10 (last_digits_of k (n / 10)) ((0x30 + n % 10) ∷ [])
    ∙ (and-eq-true_iff (all_digits 10 (last_digits_of k (n / 10))) (all_digits 10 ((0x30 + n % 10) ∷ []))).1
    (last_digits k (n / 10), (and-eq-true_iff (is_digit 10 (0x30 + n % 10)) true).1 (lt-ltb (digit 10 (0x30 + n % 10)) 10 (rw (last_byte n) (mod-lt n (lit< tt))), refl))

-- what was printed with k digits is read back
pub last-number : (k n most : ℕ) → 0 < k → n % 10 ^ k ≤ most → is_number 10 most (last_digits_of k n) ≡ true
last-number k n most h l = number-whole 10 most (last_digits_of k n) (rw (length_last k n) h) (last_digits k n) (rw (last-value k n) l)

pub last-read : (k n most : ℕ) → 0 < k → n % 10 ^ k ≤ most → number_in 10 most (last_digits_of k n) ≡ Some (n % 10 ^ k)
last-read k n most h l = number_is 10 most (last_digits_of k n) (last-number k n most h l) ∙ ap Some (last-value k n)

-- how many digits
one-place-less : (f n : ℕ) → n < 10 ^ suc (suc f) → n / 10 < 10 ^ suc f
one-place-less f n h = (div-lt_iff_lt-mul (lit< tt)).1 (rw (pow-suc 10 (suc f)) at h)

places-hold : (f n : ℕ) → n < 10 ^ suc f → n < 10 ^ places_in f n
places-hold zero n h = h
places-hold (suc f) n h = go (ltb n 10) (ltb-true n 10) (places-hold f (n / 10) (one-place-less f n h))
  where
    go : (b : Bool) → (b ≡ true → n < 10) → n / 10 < 10 ^ places_in f (n / 10) → n < 10 ^ cond b 1 (suc (places_in f (n / 10)))
    go true a c = a refl
    go false a c = rw (pow-suc 10 (places_in f (n / 10))) ((div-lt_iff_lt-mul (lit< tt)).0 c)

places-some : (f n : ℕ) → 0 < places_in f n
places-some zero n = lit< tt
places-some (suc f) n = go (ltb n 10)
  where
    go : (b : Bool) → 0 < cond b 1 (suc (places_in f (n / 10)))
    go true = lit< tt
    go false = zero-lt-suc (places_in f (n / 10))

places-few : (f n : ℕ) → places_in f n ≤ suc f
places-few zero n = lit≤ tt
places-few (suc f) n = go (ltb n 10) (places-few f (n / 10))
  where
    go : (b : Bool) → places_in f (n / 10) ≤ suc f → cond b 1 (suc (places_in f (n / 10))) ≤ suc (suc f)
    go true h = omega arith
    go false h = omega arith

module _ (n : ℕ) where
  pub places-positive : 0 < places n
  unfolding places
  places-positive = places-some 19 n

  pub places-most : places n ≤ 20
  unfolding places
  places-most = places-few 19 n

  places-mod : n < 10 ^ 20 → n % 10 ^ places n ≡ n
  unfolding places
  places-mod h = mod-eq_of_lt (places-hold 19 n h)

  pub length-decimal : length (decimal n) ≡ places n
  unfolding decimal
  length-decimal = length_last (places n) n

  -- a printed number is all digits
  pub decimal-digits : all_digits 10 (decimal n) ≡ true
  unfolding decimal
  decimal-digits = last_digits (places n) n

  -- a printed number reads back as itself
  pub decimal-value : n < 10 ^ 20 → value 10 (decimal n) ≡ n
  unfolding decimal
  decimal-value h = last-value (places n) n ∙ places-mod h

  -- a printed number is one that reading takes, if it's in the reader's range
  pub decimal-number : (most : ℕ) → n ≤ most → most < 10 ^ 20 → is_number 10 most (decimal n) ≡ true
  unfolding decimal
  decimal-number most h l = last-number (places n) n most places-positive (rw (places-mod (omega arith)) h)

  -- what was printed is read back
  pub decimal-read : (most : ℕ) → n ≤ most → most ≤ 18446744073709551615 → number_in 10 most (decimal n) ≡ Some n
  decimal-read most h l = number_is 10 most (decimal n) (decimal-number most h (omega arith)) ∙ ap Some (decimal-value (omega arith))

-- counting the digits: k - 1 are counted, and `rest` stands before them
pub record Counting (n k rest : ℕ) : Type 0 where
  pub left : ℕ
  pub sum : k + left ≡ 20
  pub under : rest < 10 ^ suc left
  pub total : k + places_in left rest ≡ places_in 19 n + 1

pub counting-start : (n : ℕ) → n < 2 ^ 64 → Counting n 1 n
counting-start n h = record { left = 19; sum = refl; under = lt_of_lt_of_le h (lit≤ tt); total = one (places_in 19 n) }
  where
    one : (p : ℕ) → 1 + p ≡ p + 1
    one p = omega arith

pub counting_more : {n k rest : ℕ} → Counting n k rest → 10 ≤ rest → Counting n (k + 1) (rest / 10)
counting_more {n} {k} {rest} c h = go c.left c.sum c.under c.total
  where
    go : (f : ℕ) → k + f ≡ 20 → rest < 10 ^ suc f → k + places_in f rest ≡ places_in 19 n + 1 → Counting n (k + 1) (rest / 10)
    go zero s u t = absurd (omega arith)
    go (suc f) s u t =
        let m : places_in (suc f) rest ≡ suc (places_in f (rest / 10)) = rw (le-ltb rest 10 h) in
        record { left = f; sum = omega arith; under = one-place-less f rest u; total = on (places_in f (rest / 10)) (places_in (suc f) rest) (places_in 19 n) m t }
      where
        on : (a b p : ℕ) → b ≡ suc a → k + b ≡ p + 1 → k + 1 + a ≡ p + 1
        on a b p e t = omega arith

pub counting-done : {n k rest : ℕ} → Counting n k rest → rest < 10 → k ≡ places n
unfolding places
counting-done {n} {k} {rest} c h = go c.left c.total
  where
    go : (f : ℕ) → k + places_in f rest ≡ places_in 19 n + 1 → k ≡ places_in 19 n
    go zero t = omega arith
    go (suc f) t = let e : places_in (suc f) rest ≡ 1 = rw (lt-ltb rest 10 h) in on (places_in (suc f) rest) (places_in 19 n) e t
      where
        on : (a p : ℕ) → a ≡ 1 → k + a ≡ p + 1 → k ≡ p
        on a p e t = omega arith

-- spelling from the right: the i digits of `rest` are still to come
pub record Spelling (k n : ℕ) (bytes : List ℕ) (i rest : ℕ) : Type 0 where
  pub size : length bytes ≡ 20
  pub within : i ≤ k
  pub whole : last_digits_of i rest ++ drop i bytes ≡ last_digits_of k n ++ zeros (20 - k)

-- the digits among the bytes spelt
pub spelt : (k n w : ℕ) (bytes : List ℕ) → w ≡ min k 20 → bytes ≡ last_digits_of w n ++ zeros (20 - w) → take w bytes ≡ last_digits_of (min k 20) n
spelt k n w bytes h e = ap (take w) e ∙ take_at (last_digits_of w n) (zeros (20 - w)) w (length_last w n) ∙ ap (λ (x : ℕ). last_digits_of x n) h

pub decimal-last : (n k : ℕ) → k ≡ places n → last_digits_of (min k 20) n ≡ decimal n
unfolding decimal
decimal-last n k e = let h = places-most n in ap (λ (x : ℕ). last_digits_of x n) (min-eq_left (omega arith) ∙ e)
