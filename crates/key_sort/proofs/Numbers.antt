-- Numbers of two bytes each: read, put, in parts. Assumes nothing.
use Prim.Native.Nat.{ℕ, zero, suc, ◌+◌, ◌*◌, ◌/◌, ◌%◌, ◌≤◌, ◌<◌}
use mathlib.Core.Path.{◌≡◌, refl, ap, ◌∙◌}
use mathlib.Core.List.{List, [], ◌∷◌, ◌++◌}
use native.Mathlib.Omega.{arith}
use lib.ListN.{length, get_or, take, drop, set}
use Rattle.key_sort.specs.inside.Numbers.{numbers_in}

pub length-numbers : (s : List ℕ) → length (numbers_in s) ≡ length s / 2
unfolding numbers_in
length-numbers [] = refl
length-numbers (a ∷ []) = refl
length-numbers (a ∷ b ∷ s) = let h = length-numbers s in omega arith

double : (i : ℕ) → suc i + suc i ≡ suc (suc (i + i))
double i = omega arith

pub number-at : (s : List ℕ) (i : ℕ) → i < length (numbers_in s) → get_or s (i + i) 0 + get_or s (i + i + 1) 0 * 256 ≡ get_or (numbers_in s) i 0
unfolding numbers_in
number-at [] i h = absurd (omega arith)
number-at (a ∷ []) i h = absurd (omega arith)
number-at (a ∷ b ∷ s) zero h = refl
number-at (a ∷ b ∷ s) (suc i) h =
    let z : suc i + suc i ≡ suc (suc (i + i)) = omega arith in
    let y : suc i + suc i + 1 ≡ suc (suc (i + i + 1)) = omega arith in
    ap (λ (k : ℕ). get_or (a ∷ b ∷ s) k 0 + get_or (a ∷ b ∷ s) (suc i + suc i + 1) 0 * 256) z
    ∙ ap (λ (k : ℕ). get_or s (i + i) 0 + get_or (a ∷ b ∷ s) k 0 * 256) y
    ∙ number-at s i (omega arith)

put-at : (s : List ℕ) (i a b : ℕ) → numbers_in (set (set s (i + i) a) (i + i + 1) b) ≡ set (numbers_in s) i (a + b * 256)
unfolding numbers_in
put-at [] i a b = refl
put-at (x ∷ []) zero a b = refl
put-at (x ∷ []) (suc i) a b =
    let z : suc i + suc i ≡ suc (suc (i + i)) = omega arith in
    let y : suc i + suc i + 1 ≡ suc (suc (i + i + 1)) = omega arith in
    ap (λ (k : ℕ). numbers_in (set (set (x ∷ []) k a) (suc i + suc i + 1) b)) z ∙ ap (λ (k : ℕ). numbers_in (set (x ∷ []) k b)) y
put-at (x ∷ y ∷ s) zero a b = refl
put-at (x ∷ y ∷ s) (suc i) a b =
    let z : suc i + suc i ≡ suc (suc (i + i)) = omega arith in
    let w : suc i + suc i + 1 ≡ suc (suc (i + i + 1)) = omega arith in
    ap (λ (k : ℕ). numbers_in (set (set (x ∷ y ∷ s) k a) (suc i + suc i + 1) b)) z
    ∙ ap (λ (k : ℕ). numbers_in (set (x ∷ y ∷ set s (i + i) a) k b)) w
    ∙ ap (λ (l : List ℕ). (x + y * 256) ∷ l) (put-at s i a b)

-- a number's bytes
pub put-number : (s : List ℕ) (i v : ℕ) → numbers_in (set (set s (i + i) (v % 256)) (i + i + 1) (v / 256)) ≡ set (numbers_in s) i v
put-number s i v = let z : v % 256 + v / 256 * 256 ≡ v = omega arith in put-at s i (v % 256) (v / 256) ∙ ap (set (numbers_in s) i) z

-- the numbers from place i on
pub numbers-drop : (s : List ℕ) (i : ℕ) → numbers_in (drop (i + i) s) ≡ drop i (numbers_in s)
unfolding numbers_in
numbers-drop s zero = refl
numbers-drop [] (suc i) = let z : suc i + suc i ≡ suc (suc (i + i)) = omega arith in ap (λ (k : ℕ). numbers_in (drop k [])) z
numbers-drop (a ∷ []) (suc i) = let z : suc i + suc i ≡ suc (suc (i + i)) = omega arith in ap (λ (k : ℕ). numbers_in (drop k (a ∷ []))) z
numbers-drop (a ∷ b ∷ s) (suc i) = let z : suc i + suc i ≡ suc (suc (i + i)) = omega arith in ap (λ (k : ℕ). numbers_in (drop k (a ∷ b ∷ s))) z ∙ numbers-drop s i

-- the first i, and others behind them
pub numbers-front : (s t : List ℕ) (i : ℕ) → i ≤ length (numbers_in s) → numbers_in (take (i + i) s ++ t) ≡ take i (numbers_in s) ++ numbers_in t
unfolding numbers_in
numbers-front s t zero h = refl
numbers-front [] t (suc i) h = absurd (omega arith)
numbers-front (a ∷ []) t (suc i) h = absurd (omega arith)
numbers-front (a ∷ b ∷ s) t (suc i) h =
    let z : suc i + suc i ≡ suc (suc (i + i)) = omega arith in
    ap (λ (k : ℕ). numbers_in (take k (a ∷ b ∷ s) ++ t)) z ∙ ap (λ (l : List ℕ). (a + b * 256) ∷ l) (numbers-front s t i (omega arith))
