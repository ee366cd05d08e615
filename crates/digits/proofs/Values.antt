-- What a text of digits stands for. Assumes nothing.
use Prim.Native.Nat.{ℕ, suc, ◌+◌, ◌*◌, ◌^◌, ◌≤◌, ◌<◌}
use mathlib.Core.Path.{◌≡◌, refl, sym, ap, ◌∙◌}
use mathlib.Core.List.{List, [], ◌∷◌, ◌++◌}
use mathlib.Core.Bool.{Bool, true, ◌&&◌, and_assoc, and-eq-true_iff}
use native.Mathlib.Nat.{le_trans, le-mul_of_pos_right, mul-le-mul_right, add-mul, suc-mul, mul_assoc, mul_comm, mul_right_comm, pow-zero, pow-suc}
use native.Mathlib.Omega.{arith}
use borrow.Author.Tests.{ltb-true}
use lib.Dec.{lit<}
use lib.ListN.{length}
use Rattle.digits.specs.Digits.{digit, is_digit, all_digits, value_from, value}

module _ (base : ℕ) where
  -- one text behind another
  pub append-value : (n : ℕ) (s t : List ℕ) → value_from base n (s ++ t) ≡ value_from base (value_from base n s) t
  append-value n [] t = refl
  append-value n (b ∷ s) t = append-value (n * base + digit base b) s t

  -- a joined text is all digits exactly if both its parts are
  pub append-digits : (s t : List ℕ) → all_digits base (s ++ t) ≡ (all_digits base s && all_digits base t)
  append-digits [] t = refl
  append-digits (b ∷ s) t = ap (λ (x : Bool). is_digit base b && x) (append-digits s t) ∙ sym (and_assoc (is_digit base b) (all_digits base s) (all_digits base t))

  -- a value only grows with its digits, and with what stands before them
  pub value_grows : 0 < base → (n : ℕ) (s : List ℕ) → n ≤ value_from base n s
  value_grows h n [] = omega arith
  value_grows h n (b ∷ s) = le_trans (on n (digit base b) (le-mul_of_pos_right n h)) (value_grows h (n * base + digit base b) s)
    where
      on : (n d : ℕ) → n ≤ n * base → n ≤ n * base + d
      on n d k = omega arith

  pub value-monotone : (m n : ℕ) → m ≤ n → (s : List ℕ) → value_from base m s ≤ value_from base n s
  value-monotone m n h [] = h
  value-monotone m n h (b ∷ s) = value-monotone (m * base + digit base b) (n * base + digit base b) (on (m * base) (n * base) (digit base b) (mul-le-mul_right base h)) s
    where
      on : (x y d : ℕ) → x ≤ y → x + d ≤ y + d
      on x y d k = omega arith

  -- the number in front, moved by as many places as s has digits
  pub value-from : (n : ℕ) (s : List ℕ) → value_from base n s ≡ n * base ^ length s + value base s
  value-from n [] = rw (pow-zero base) (omega arith)
  value-from n (b ∷ s) =
      let d = digit base b in
      let l = length s in
      value-from (n * base + d) s ∙ moved n d (base ^ l) (value base s)
      ∙ ap (λ (p : ℕ). n * p + ((0 * base + d) * base ^ l + value base s)) (sym (pow-suc base l))
      ∙ ap (λ (v : ℕ). n * base ^ suc l + v) (sym (value-from (0 * base + d) s))
    where
      moved : (n d p v : ℕ) → (n * base + d) * p + v ≡ n * (p * base) + ((0 * base + d) * p + v)
      moved n d p v =
          let e : (n * base + d) * p ≡ n * base * p + d * p = add-mul (n * base) d p in
          let f : n * (p * base) ≡ n * base * p = sym (mul_assoc n p base) ∙ mul_right_comm n p base in
          let z : 0 * base + d ≡ d = omega arith in
          let g : (0 * base + d) * p ≡ d * p = ap (λ (x : ℕ). x * p) z in
          omega arith

  -- k digits stand for less than the k-th power of the base
  pub value-below : (s : List ℕ) → all_digits base s ≡ true → value base s < base ^ length s
  value-below [] e = rw (pow-zero base) (lit< tt)
  value-below (b ∷ s) e =
      let p = (and-eq-true_iff (is_digit base b) (all_digits base s)).0 e in
      rw (value-from (0 * base + digit base b) s, pow-suc base (length s)) (below (digit base b) (base ^ length s) (value base s) (ltb-true (digit base b) base p.0) (value-below s p.1))
    where
      below : (d p v : ℕ) → d < base → v < p → (0 * base + d) * p + v < p * base
      below d p v h k =
          let z : 0 * base + d ≡ d = omega arith in
          let g : (0 * base + d) * p ≡ d * p = ap (λ (x : ℕ). x * p) z in
          let e : suc d * p ≡ d * p + p = suc-mul d p in
          let l : suc d * p ≤ base * p = mul-le-mul_right p h in
          let f : base * p ≡ p * base = mul_comm base p in
          omega arith
