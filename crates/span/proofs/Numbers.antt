-- Seconds and nanoseconds, compared and subtracted as one number. Assumes nothing.
use Prim.Native.Nat.{ℕ, ◌+◌, ◌-◌, ◌*◌, ◌/◌, ◌%◌, ◌≤◌, ◌<◌}
use mathlib.Core.Path.{◌≡◌, refl, sym}
use mathlib.Core.Bool.{Bool, true, false, cond, ◌&&◌, ◌||◌}
use native.Mathlib.Omega.{arith}
use native.Mathlib.Nat.{div-eq_of_lt-le}
use borrow.Author.Tests.{lt-ltb, le-ltb, ltb-true, ltb-false, eqb-true, eqb-false}
use lib.Dec.{ltb, eqb}

module _ (s n t k : ℕ) (a : n < 1000000000) (b : k < 1000000000) where
  pub as_number : (ltb s t || (eqb s t && ltb n k)) ≡ ltb (s * 1000000000 + n) (t * 1000000000 + k)
  as_number = go (ltb s t) (eqb s t) (ltb n k) refl refl refl
    where
      go : (p q r : Bool) → ltb s t ≡ p → eqb s t ≡ q → ltb n k ≡ r → (p || (q && r)) ≡ ltb (s * 1000000000 + n) (t * 1000000000 + k)
      go true q r e f g = sym (lt-ltb (s * 1000000000 + n) (t * 1000000000 + k) (omega (arith, ltb-true s t e)))
      go false true true e f g = sym (lt-ltb (s * 1000000000 + n) (t * 1000000000 + k) (omega (arith, eqb-true s t f, ltb-true n k g)))
      go false true false e f g = sym (le-ltb (s * 1000000000 + n) (t * 1000000000 + k) (omega (arith, eqb-true s t f, ltb-false n k g)))
      go false false r e f g =
          let u = ltb-false s t e in
          let v : s ≡ t → ⊥ = eqb-false s t f in
          sym (le-ltb (s * 1000000000 + n) (t * 1000000000 + k) (omega (arith, u, v)))

  abbrev gap : ℕ
  gap = (t * 1000000000 + k) - (s * 1000000000 + n)

  module _ (h : s * 1000000000 + n ≤ t * 1000000000 + k) where
    pub as-seconds : cond (ltb k n) (t - s - 1) (t - s) ≡ gap / 1000000000
    as-seconds = go (ltb k n) refl
      where
        go : (r : Bool) → ltb k n ≡ r → cond r (t - s - 1) (t - s) ≡ gap / 1000000000
        go true e = let u = ltb-true k n e in sym (div-eq_of_lt-le 1000000000 (omega arith) (omega arith))
        go false e = let u = ltb-false k n e in sym (div-eq_of_lt-le 1000000000 (omega arith) (omega arith))

    pub as_nanos : cond (ltb k n) (1000000000 - (n - k)) (k - n) ≡ gap % 1000000000
    as_nanos = go (ltb k n) refl as-seconds
      where
        go : (r : Bool) → ltb k n ≡ r → cond (ltb k n) (t - s - 1) (t - s) ≡ gap / 1000000000 → cond r (1000000000 - (n - k)) (k - n) ≡ gap % 1000000000
        go true e q = let u = ltb-true k n e in let w = rw e at q in omega (arith, u, w)
        go false e q = let u = ltb-false k n e in let w = rw e at q in omega (arith, u, w)
