-- Two runs in order become one in order. Assumes nothing.
use Prim.Native.Nat.{ℕ, zero, suc, ◌+◌}
use mathlib.Core.Path.{◌≡◌, refl, ap}
use mathlib.Core.List.{List, [], ◌∷◌}
use mathlib.Core.Bool.{Bool, true, false, cond}
use native.Mathlib.Omega.{arith}
use lib.Dec.{eqb}
use lib.ListN.{length, get_or, drop}
use Rattle.key_sort.specs.inside.Arranged.{Before, Ordered, count}
use Rattle.key_sort.specs.inside.Merged.{takes_first, merged}

pub length_merged : (test : ℕ → ℕ → Bool) (n : ℕ) (xs ys : List ℕ) → length (merged test n xs ys) ≡ n
unfolding merged
length_merged test zero xs ys = refl
length_merged test (suc n) xs ys = go (takes_first test xs ys) (length_merged test n (drop 1 xs) ys) (length_merged test n xs (drop 1 ys))
  where
    go : (t : Bool) → length (merged test n (drop 1 xs) ys) ≡ n → length (merged test n xs (drop 1 ys)) ≡ n
        → length (cond t (get_or xs 0 0 ∷ merged test n (drop 1 xs) ys) (get_or ys 0 0 ∷ merged test n xs (drop 1 ys))) ≡ suc n
    go true p q = ap suc p
    go false p q = ap suc q

module _ (test : ℕ → ℕ → Bool) where
  split : (v y : ℕ) (l : List ℕ) → count v (y ∷ l) ≡ count v (y ∷ []) + count v l
  unfolding count
  split v y l = go (eqb v y)
    where
      go : (t : Bool) → cond t (suc (count v l)) (count v l) ≡ cond t 1 0 + count v l
      go true = omega arith
      go false = omega arith

  pub count-merged : (v n : ℕ) (xs ys : List ℕ) → length xs + length ys ≡ n → count v (merged test n xs ys) ≡ count v xs + count v ys
  unfolding merged takes_first count
  count-merged v zero [] [] e = refl
  count-merged v zero [] (y ∷ ys) e = absurd (omega arith)
  count-merged v zero (x ∷ xs) ys e = absurd (omega arith)
  count-merged v (suc n) [] [] e = absurd (omega arith)
  count-merged v (suc n) [] (y ∷ ys) e = go (count-merged v n [] ys (omega arith))
    where
      go : count v (merged test n [] ys) ≡ count v [] + count v ys → count v (y ∷ merged test n [] ys) ≡ count v [] + count v (y ∷ ys)
      go h = let a = split v y (merged test n [] ys) in let b = split v y ys in omega arith
  count-merged v (suc n) (x ∷ xs) [] e = go (count-merged v n xs [] (omega arith))
    where
      go : count v (merged test n xs []) ≡ count v xs + count v [] → count v (x ∷ merged test n xs []) ≡ count v (x ∷ xs) + count v []
      go h = let a = split v x (merged test n xs []) in let b = split v x xs in omega arith
  count-merged v (suc n) (x ∷ xs) (y ∷ ys) e = go (test x y) (count-merged v n xs (y ∷ ys) (omega arith)) (count-merged v n (x ∷ xs) ys (omega arith))
    where
      go : (t : Bool) → count v (merged test n xs (y ∷ ys)) ≡ count v xs + count v (y ∷ ys) → count v (merged test n (x ∷ xs) ys) ≡ count v (x ∷ xs) + count v ys
          → count v (cond t (x ∷ merged test n xs (y ∷ ys)) (y ∷ merged test n (x ∷ xs) ys)) ≡ count v (x ∷ xs) + count v (y ∷ ys)
      go true p q = let a = split v x (merged test n xs (y ∷ ys)) in let b = split v x xs in omega arith
      go false p q = let a = split v y (merged test n (x ∷ xs) ys) in let b = split v y ys in omega arith

module _ (test : ℕ → ℕ → Bool) (le : ℕ → ℕ → Type 0) (yes : (x y : ℕ) → test x y ≡ true → le x y) (no : (x y : ℕ) → test x y ≡ false → le y x)
    (trans : (x y z : ℕ) → le x y → le y z → le x z) where
  before-trans : (x y : ℕ) (ys : List ℕ) → le x y → Before le y ys → Before le x ys
  unfolding Before
  before-trans x y [] p q = tt
  before-trans x y (z ∷ zs) p q = (trans x y z p q.0, before-trans x y zs p q.1)

  before-merged : (b n : ℕ) (xs ys : List ℕ) → length xs + length ys ≡ n → Before le b xs → Before le b ys → Before le b (merged test n xs ys)
  unfolding merged takes_first Before
  before-merged b zero xs ys e p q = tt
  before-merged b (suc n) [] [] e p q = absurd (omega arith)
  before-merged b (suc n) [] (y ∷ ys) e p q = (q.0, before-merged b n [] ys (omega arith) p q.1)
  before-merged b (suc n) (x ∷ xs) [] e p q = (p.0, before-merged b n xs [] (omega arith) p.1 q)
  before-merged b (suc n) (x ∷ xs) (y ∷ ys) e p q = go (test x y) (before-merged b n xs (y ∷ ys) (omega arith) p.1 q) (before-merged b n (x ∷ xs) ys (omega arith) p q.1)
    where
      go : (t : Bool) → Before le b (merged test n xs (y ∷ ys)) → Before le b (merged test n (x ∷ xs) ys)
          → Before le b (cond t (x ∷ merged test n xs (y ∷ ys)) (y ∷ merged test n (x ∷ xs) ys))
      go true f g = (p.0, f)
      go false f g = (q.0, g)

  pub ordered-merged : (n : ℕ) (xs ys : List ℕ) → length xs + length ys ≡ n → Ordered le xs → Ordered le ys → Ordered le (merged test n xs ys)
  unfolding merged takes_first Before Ordered
  ordered-merged zero xs ys e p q = tt
  ordered-merged (suc n) [] [] e p q = absurd (omega arith)
  ordered-merged (suc n) [] (y ∷ ys) e p q = (before-merged y n [] ys (omega arith) tt q.0, ordered-merged n [] ys (omega arith) p q.1)
  ordered-merged (suc n) (x ∷ xs) [] e p q = (before-merged x n xs [] (omega arith) p.0 tt, ordered-merged n xs [] (omega arith) p.1 q)
  ordered-merged (suc n) (x ∷ xs) (y ∷ ys) e p q =
      go (test x y) refl (ordered-merged n xs (y ∷ ys) (omega arith) p.1 q) (ordered-merged n (x ∷ xs) ys (omega arith) p q.1)
    where
      go : (t : Bool) → test x y ≡ t → Ordered le (merged test n xs (y ∷ ys)) → Ordered le (merged test n (x ∷ xs) ys)
          → Ordered le (cond t (x ∷ merged test n xs (y ∷ ys)) (y ∷ merged test n (x ∷ xs) ys))
      go true o f g =
          let l : le x y = yes x y o in
          (before-merged x n xs (y ∷ ys) (omega arith) p.0 (l, before-trans x y ys l q.0), f)
      go false o f g =
          let l : le y x = no x y o in
          (before-merged y n (x ∷ xs) ys (omega arith) (l, before-trans y x xs l p.0) q.0, g)
