-- Numbers in an order. Definitions only.
use Rattle.std.specs.Prelude.{ℕ, zero, suc, ◌≡◌, List, [], ◌∷◌, cond, length, eqb}

-- x comes before each
unfoldable pub Before : (ℕ → ℕ → Type 0) → ℕ → List ℕ → Type 0
Before le x [] = Unit
Before le x (y ∷ ys) = le x y × Before le x ys

-- each comes before all behind it
unfoldable pub Ordered : (ℕ → ℕ → Type 0) → List ℕ → Type 0
Ordered le [] = Unit
Ordered le (x ∷ xs) = Before le x xs × Ordered le xs

-- how often x is there
unfoldable pub count : ℕ → List ℕ → ℕ
count x [] = 0
count x (y ∷ ys) = cond (eqb x y) (suc (count x ys)) (count x ys)

-- n numbers from `first` on
unfoldable pub numbers : ℕ → ℕ → List ℕ
numbers first zero = []
numbers first (suc n) = first ∷ numbers (suc first) n

-- the n numbers from `first` on, in an order: each is there as often as among them, which is once
pub record Arranged (le : ℕ → ℕ → Type 0) (first n : ℕ) (l : List ℕ) : Type 0 where
  pub ordered : Ordered le l
  pub all : (x : ℕ) → count x l ≡ count x (numbers first n)
  pub size : length l ≡ n
