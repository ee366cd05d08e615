-- The order of attributes by their keys is one: total, and of one piece. Assumes nothing.
use Prim.Native.Nat.{ℕ, suc, ◌≤◌, ◌<◌}
use mathlib.Core.Path.{◌≡◌, refl, sym, ap, subst, ◌∙◌}
use mathlib.Core.Logic.{◌⊎◌, inl, inr}
use mathlib.Core.List.{List, [], ◌∷◌}
use mathlib.Core.Bool.{Bool, true, false, cond}
use native.Mathlib.Omega.{arith}
use borrow.Author.Tests.{eqb-true, eqb-false, leb-true, leb-false, ltb-true, ltb-false}
use lib.Dec.{eqb, leb, ltb}
use lib.ListN.{length, get_or}
use Rattle.key_order.specs.inside.KeyOrder.{Lower, Comes, shorter, lower, tied, common_length, comes}

lower-trans : (a b c : List ℕ) → Lower a b → Lower b c → Lower a c
unfolding Lower
lower-trans [] b c p q = p
lower-trans (x ∷ xs) [] c p q = absurd p
lower-trans (x ∷ xs) (y ∷ ys) [] p q = q
lower-trans (x ∷ xs) (y ∷ ys) (z ∷ zs) p q = go p q (lower-trans xs ys zs)
  where
    go : (x < y) ⊎ ((x ≡ y) × Lower xs ys) → (y < z) ⊎ ((y ≡ z) × Lower ys zs) → (Lower xs ys → Lower ys zs → Lower xs zs) → (x < z) ⊎ ((x ≡ z) × Lower xs zs)
    go (inl p) (inl q) f = inl (omega arith)
    go (inl p) (inr q) f = let e = q.0 in inl (omega arith)
    go (inr p) (inl q) f = let e = p.0 in inl (omega arith)
    go (inr p) (inr q) f = inr (p.0 ∙ q.0, f p.1 q.1)

lower-never : (a : List ℕ) → Lower a a → ⊥
unfolding Lower
lower-never [] p = p
lower-never (x ∷ xs) p = go p (lower-never xs)
  where
    go : (x < x) ⊎ ((x ≡ x) × Lower xs xs) → (Lower xs xs → ⊥) → ⊥
    go (inl p) f = omega arith
    go (inr p) f = f p.1

pub comes-trans : (a b c : List ℕ) (i j k : ℕ) → Comes a b i j → Comes b c j k → Comes a c i k
comes-trans a b c i j k (shorter p) (shorter q) = shorter (omega arith)
comes-trans a b c i j k (shorter p) (lower e q) = shorter (omega arith)
comes-trans a b c i j k (shorter p) (tied e q) = let h = ap length e in shorter (omega arith)
comes-trans a b c i j k (lower e p) (shorter q) = shorter (omega arith)
comes-trans a b c i j k (lower e p) (lower f q) = lower (e ∙ f) (lower-trans a b c p q)
comes-trans a b c i j k (lower e p) (tied f q) = lower (e ∙ ap length f) (subst (λ (l : List ℕ). Lower a l) f p)
comes-trans a b c i j k (tied e p) (shorter q) = let h = ap length e in shorter (omega arith)
comes-trans a b c i j k (tied e p) (lower f q) = lower (ap length e ∙ f) (subst (λ (l : List ℕ). Lower l c) (sym e) q)
comes-trans a b c i j k (tied e p) (tied f q) = tied (e ∙ f) (omega arith)

-- keys between equal keys are equal
pub comes-same : (a b : List ℕ) {i j h k : ℕ} → Comes a b i j → Comes b a h k → a ≡ b
comes-same a b (shorter p) (shorter q) = absurd (omega arith)
comes-same a b (shorter p) (lower e q) = absurd (omega arith)
comes-same a b (shorter p) (tied e q) = sym e
comes-same a b (lower e p) (shorter q) = absurd (omega arith)
comes-same a b (lower e p) (lower f q) = absurd (lower-never a (lower-trans a b a p q))
comes-same a b (lower e p) (tied f q) = sym f
comes-same a b (tied e p) q = e

-- attributes with one key are in the order of their numbers
pub comes-tied : (a b : List ℕ) {i j : ℕ} → a ≡ b → Comes a b i j → i ≤ j
comes-tied a b e (shorter p) = let h = ap length e in absurd (omega arith)
comes-tied a b e (lower f p) = absurd (lower-never b (subst (λ (l : List ℕ). Lower l b) e p))
comes-tied a b e (tied f p) = p

-- bytes of one length are equal, or differ first behind what they have in common
all-common : (a b : List ℕ) → length a ≡ length b → common_length a b ≡ length a → a ≡ b
unfolding common_length
all-common [] [] e p = refl
all-common [] (y ∷ ys) e p = absurd (omega arith)
all-common (x ∷ xs) [] e p = absurd (omega arith)
all-common (x ∷ xs) (y ∷ ys) e p = go (eqb x y) refl p (all-common xs ys (omega arith))
  where
    go : (t : Bool) → eqb x y ≡ t → cond t (suc (common_length xs ys)) 0 ≡ suc (length xs) → (common_length xs ys ≡ length xs → xs ≡ ys) → x ∷ xs ≡ y ∷ ys
    go true q p f = let h : x ≡ y = eqb-true x y q in let g : xs ≡ ys = f (omega arith) in cc
    go false q p f = absurd (omega arith)

pub common-most : (a b : List ℕ) → common_length a b ≤ length a
unfolding common_length
common-most [] b = omega arith
common-most (x ∷ xs) [] = omega arith
common-most (x ∷ xs) (y ∷ ys) = go (eqb x y) (common-most xs ys)
  where
    go : (t : Bool) → common_length xs ys ≤ length xs → cond t (suc (common_length xs ys)) 0 ≤ suc (length xs)
    go true h = omega arith
    go false h = omega arith

parting : (a b : List ℕ) → length a ≡ length b → (common_length a b ≡ length a → ⊥)
    → (get_or a (common_length a b) 0 < get_or b (common_length a b) 0 → Lower a b) × (get_or b (common_length a b) 0 ≤ get_or a (common_length a b) 0 → Lower b a)
unfolding common_length Lower
parting [] [] e p = absurd (p refl)
parting [] (y ∷ ys) e p = absurd (omega arith)
parting (x ∷ xs) [] e p = absurd (omega arith)
parting (x ∷ xs) (y ∷ ys) e p = go (eqb x y) refl p (parting xs ys (omega arith))
  where
    go : (t : Bool) → eqb x y ≡ t → (cond t (suc (common_length xs ys)) 0 ≡ suc (length xs) → ⊥)
        → ((common_length xs ys ≡ length xs → ⊥)
        → (get_or xs (common_length xs ys) 0 < get_or ys (common_length xs ys) 0 → Lower xs ys) × (get_or ys (common_length xs ys) 0 ≤ get_or xs (common_length xs ys) 0 → Lower ys xs))
        → (get_or (x ∷ xs) (cond t (suc (common_length xs ys)) 0) 0 < get_or (y ∷ ys) (cond t (suc (common_length xs ys)) 0) 0 → (x < y) ⊎ ((x ≡ y) × Lower xs ys))
        × (get_or (y ∷ ys) (cond t (suc (common_length xs ys)) 0) 0 ≤ get_or (x ∷ xs) (cond t (suc (common_length xs ys)) 0) 0 → (y < x) ⊎ ((y ≡ x) × Lower ys xs))
    go true q p f =
        let h : x ≡ y = eqb-true x y q in
        let g = f (λ (z : common_length xs ys ≡ length xs). p (ap suc z)) in
        (λ l. inr (h, g.0 l), λ l. inr (sym h, g.1 l))
    go false q p f = let h = eqb-false x y q in (λ l. inl l, λ l. inl (omega (arith, h)))

-- what the test tells
module _ (k l : List ℕ) (i j : ℕ) where
  pub comes-true : comes k l i j ≡ true → Comes k l i j
  unfolding comes
  comes-true e = go (eqb (length k) (length l)) refl e
    where
      same : length k ≡ length l → (t : Bool) → eqb (common_length k l) (length k) ≡ t
          → cond t (leb i j) (ltb (get_or k (common_length k l) 0) (get_or l (common_length k l) 0)) ≡ true → Comes k l i j
      same h true q p = tied (all-common k l h (eqb-true (common_length k l) (length k) q)) (leb-true i j p)
      same h false q p = lower h ((parting k l h (eqb-false (common_length k l) (length k) q)).0 (ltb-true (get_or k (common_length k l) 0) (get_or l (common_length k l) 0) p))

      go : (t : Bool) → eqb (length k) (length l) ≡ t
          → cond t (cond (eqb (common_length k l) (length k)) (leb i j) (ltb (get_or k (common_length k l) 0) (get_or l (common_length k l) 0))) (ltb (length k) (length l)) ≡ true → Comes k l i j
      go true q p = same (eqb-true (length k) (length l) q) (eqb (common_length k l) (length k)) refl p
      go false q p = shorter (ltb-true (length k) (length l) p)

  pub comes-false : comes k l i j ≡ false → Comes l k j i
  unfolding comes
  comes-false e = go (eqb (length k) (length l)) refl e
    where
      same : length k ≡ length l → (t : Bool) → eqb (common_length k l) (length k) ≡ t
          → cond t (leb i j) (ltb (get_or k (common_length k l) 0) (get_or l (common_length k l) 0)) ≡ false → Comes l k j i
      same h true q p = let o = leb-false i j p in tied (sym (all-common k l h (eqb-true (common_length k l) (length k) q))) (omega arith)
      same h false q p = lower (sym h) ((parting k l h (eqb-false (common_length k l) (length k) q)).1 (ltb-false (get_or k (common_length k l) 0) (get_or l (common_length k l) 0) p))

      go : (t : Bool) → eqb (length k) (length l) ≡ t
          → cond t (cond (eqb (common_length k l) (length k)) (leb i j) (ltb (get_or k (common_length k l) 0) (get_or l (common_length k l) 0))) (ltb (length k) (length l)) ≡ false → Comes l k j i
      go true q p = same (eqb-true (length k) (length l) q) (eqb (common_length k l) (length k)) refl p
      go false q p = let o = ltb-false (length k) (length l) p in let n = eqb-false (length k) (length l) q in shorter (omega (arith, n))
