-- What the digits behind a point stand for. Assumes nothing.
use Prim.Native.Nat.{ℕ, ◌+◌, ◌-◌, ◌*◌, ◌^◌, ◌≤◌, ◌<◌}
use mathlib.Core.Path.{◌≡◌, refl, sym, ap, ◌∙◌}
use mathlib.Core.Bool.{Bool, true, false, cond, and-false, and-eq-true_iff}
use mathlib.Core.List.{List, [], ◌∷◌}
use native.Mathlib.Nat.{lt_of_lt_of_le, le_of_eq, mul-lt-mul_of_pos_right, pow-le-pow_right}
use native.Mathlib.Omega.{arith}
use borrow.Author.Tests.{le-leb, lt-leb, leb-true}
use lib.Dec.{leb, lit<}
use lib.Pow.{pow-add}
use lib.ListN.{length}
use Rattle.digits.specs.Digits.{all_digits, value, is_number, number_in}
use Rattle.std.specs.Prelude.{Some, None}
use Rattle.digits.proofs.Values.{value-below}
use Rattle.digits.proofs.Numbers.{number-parts, number-whole, is-number, not-number}
use Rattle.fraction.specs.Fraction.{is_fraction, billionths, billionths_of}

-- v of n digits, moved to the ninth place
pub scaled-below : (v n : ℕ) → n ≤ 9 → v < 10 ^ n → v * 10 ^ (9 - n) < 1000000000
scaled-below v n h l =
    let e : n + (9 - n) ≡ 9 = omega arith in
    lt_of_lt_of_le (mul-lt-mul_of_pos_right l (lt_of_lt_of_le (lit< tt) (pow-le-pow_right (lit< tt) {i = 0} {j = 9 - n} (omega arith))))
    (le_of_eq (sym (pow-add 10 n (9 - n)) ∙ ap (λ (k : ℕ). 10 ^ k) e))

module _ (f : List ℕ) where
  below : all_digits 10 f ≡ true → length f ≤ 9 → value 10 f ≤ 999999999
  below d h =
      let v : value 10 f < 10 ^ length f = value-below 10 f d in
      let p : 10 ^ length f ≤ 10 ^ 9 = pow-le-pow_right (lit< tt) h in
      omega arith

  -- ---- as the code finds it
  pub fraction-empty : length f ≡ 0 → Some 0 ≡ billionths_of f
  fraction-empty h = go f h
    where
      go : (f : List ℕ) → length f ≡ 0 → Some 0 ≡ billionths_of f
      go [] h = refl
      go (b ∷ f) h = absurd (omega arith)

  pub fraction-long : 9 < length f → None ≡ billionths_of f
  fraction-long h = rw (lt-leb (length f) 9 h, and-false (all_digits 10 f))

  module _ (some : length f ≡ 0 → ⊥) (nine : length f ≤ 9) where
    number-all : is_number 10 999999999 f ≡ all_digits 10 f
    number-all = go (all_digits 10 f) refl (is_number 10 999999999 f) refl
      where
        go : (a : Bool) → all_digits 10 f ≡ a → (n : Bool) → is_number 10 999999999 f ≡ n → n ≡ a
        go true d n e = sym e ∙ number-whole 10 999999999 f (omega arith) d (below d nine)
        go false d false e = refl
        go false d true e = sym (number-parts 10 999999999 f e).1 ∙ d

    pub fraction-other : None ≡ number_in 10 999999999 f → None ≡ billionths_of f
    fraction-other e = rw (sym number-all ∙ not-number 10 999999999 f e)

    module _ (v : ℕ) (e : Some v ≡ number_in 10 999999999 f) where
      digits_are : all_digits 10 f ≡ true
      digits_are = sym number-all ∙ (is-number 10 999999999 f v e).0

      pub fraction-below : v < 10 ^ length f
      fraction-below = rw (is-number 10 999999999 f v e).1 (value-below 10 f digits_are)

      pub fraction-is : (r : ℕ) → r ≡ v * 10 ^ (9 - length f) → Some r ≡ billionths_of f
      fraction-is r q = rw (digits_are, le-leb (length f) 9 nine) (ap Some (q ∙ ap (λ (x : ℕ). x * 10 ^ (9 - length f)) (is-number 10 999999999 f v e).1))

  -- ---- what an answer tells
  -- the answer Some tells that the text is a fraction, and its billionths
  pub is-fraction : (n : ℕ) → Some n ≡ billionths_of f → (is_fraction f ≡ true) × (n ≡ billionths f)
  is-fraction n e = go (is_fraction f) refl e
    where
      go : (t : Bool) → is_fraction f ≡ t → Some n ≡ cond t (Some (billionths f)) None → (is_fraction f ≡ true) × (n ≡ billionths f)
      go true q p = (q, cc)
      go false q p = let z : ◌≡◌ {A = ℕ} 0 1 = cc in absurd (omega arith)

  -- the answer None tells that the text is no fraction
  pub not-fraction : None ≡ billionths_of f → is_fraction f ≡ false
  not-fraction e = go (is_fraction f) e
    where
      go : (t : Bool) → None ≡ cond t (Some (billionths f)) None → t ≡ false
      go true p = let z : ◌≡◌ {A = ℕ} 0 1 = cc in absurd (omega arith)
      go false p = refl

  -- nine digits or fewer, all of them counted
  pub nine-below : is_fraction f ≡ true → billionths f < 1000000000
  nine-below t =
      let p = (and-eq-true_iff (all_digits 10 f) (leb (length f) 9)).0 t in
      let h = leb-true (length f) 9 p.1 in
      scaled-below (value 10 f) (length f) h (value-below 10 f p.0)
