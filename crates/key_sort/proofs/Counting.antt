-- Numbers of a range, and those that are there. Assumes nothing.
use Prim.Native.Nat.{ℕ, zero, suc, ◌+◌, ◌≤◌, ◌<◌}
use mathlib.Core.Path.{◌≡◌, refl, sym}
use mathlib.Core.List.{List, [], ◌∷◌}
use mathlib.Core.Bool.{Bool, true, false, cond}
use native.Mathlib.Omega.{arith}
use borrow.Author.Tests.{eqb-true, eqb-false}
use lib.Dec.{eqb}
use lib.ListN.{length, get_or}
use Rattle.key_sort.specs.inside.Arranged.{Before, Ordered, count, numbers}

-- two ranges, one behind the other
pub count-numbers : (x first h rest : ℕ) → count x (numbers first (h + rest)) ≡ count x (numbers first h) + count x (numbers (first + h) rest)
unfolding count numbers
count-numbers x first zero rest =
    let z : zero + rest ≡ rest = omega arith in
    let y : first + zero ≡ first = omega arith in
    rw (z, y) (omega arith)
count-numbers x first (suc h) rest =
    let z : suc h + rest ≡ suc (h + rest) = omega arith in
    let y : first + suc h ≡ suc first + h = omega arith in
    rw (z, y) (go (eqb x first) (count-numbers x (suc first) h rest))
  where
    go : (t : Bool) → count x (numbers (suc first) (h + rest)) ≡ count x (numbers (suc first) h) + count x (numbers (suc first + h) rest)
        → cond t (suc (count x (numbers (suc first) (h + rest)))) (count x (numbers (suc first) (h + rest)))
        ≡ cond t (suc (count x (numbers (suc first) h))) (count x (numbers (suc first) h)) + count x (numbers (suc first + h) rest)
    go true e = omega arith
    go false e = omega arith

-- each number of a range is one of them
pub count-in : (x first n : ℕ) → first ≤ x → x < first + n → 0 < count x (numbers first n)
unfolding count numbers
count-in x first zero h l = absurd (omega arith)
count-in x first (suc n) h l = go (eqb x first) refl (count-in x (suc first) n)
  where
    go : (t : Bool) → eqb x first ≡ t → (suc first ≤ x → x < suc first + n → 0 < count x (numbers (suc first) n))
        → 0 < cond t (suc (count x (numbers (suc first) n))) (count x (numbers (suc first) n))
    go true q f = omega arith
    go false q f = let o = eqb-false x first q in f (omega (arith, o)) (omega arith)

-- where a number is that is there
pub record Placed (x : ℕ) (l : List ℕ) : Type 0 where
  pub at : ℕ
  pub low : at < length l
  pub is : get_or l at 0 ≡ x

pub placed : (x : ℕ) (l : List ℕ) → 0 < count x l → Placed x l
unfolding count
placed x [] h = absurd (omega arith)
placed x (y ∷ ys) h = go (eqb x y) refl h (placed x ys)
  where
    go : (t : Bool) → eqb x y ≡ t → 0 < cond t (suc (count x ys)) (count x ys) → (0 < count x ys → Placed x ys) → Placed x (y ∷ ys)
    go true q p f = record { at = 0; low = omega arith; is = sym (eqb-true x y q) }
    go false q p f = let r = f p in record { at = suc r.at; low = omega (arith, r.low); is = r.is }

-- two places of a list in order
before_at : (le : ℕ → ℕ → Type 0) (x : ℕ) (l : List ℕ) (p : ℕ) → Before le x l → p < length l → le x (get_or l p 0)
unfolding Before
before_at le x [] p b h = absurd (omega arith)
before_at le x (y ∷ ys) zero b h = b.0
before_at le x (y ∷ ys) (suc p) b h = before_at le x ys p b.1 (omega arith)

pub ordered_at : (le : ℕ → ℕ → Type 0) (l : List ℕ) (p q : ℕ) → Ordered le l → p < q → q < length l → le (get_or l p 0) (get_or l q 0)
unfolding Ordered
ordered_at le [] p q o h k = absurd (omega arith)
ordered_at le (y ∷ ys) p zero o h k = absurd (omega arith)
ordered_at le (y ∷ ys) zero (suc q) o h k = before_at le y ys q o.0 (omega arith)
ordered_at le (y ∷ ys) (suc p) (suc q) o h k = ordered_at le ys p q o.1 (omega arith) (omega arith)
