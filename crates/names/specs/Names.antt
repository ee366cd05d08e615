-- Names: when two are the same, and the place of one in a table. Definitions only.
use Rattle.std.specs.Prelude.{ℕ, suc, List, [], ◌∷◌, Bool, true, false, cond, take, drop, eqb}

-- both end together, with equal bytes up to there
unfoldable pub same_bytes : List ℕ → List ℕ → Bool
same_bytes [] [] = true
same_bytes [] (y ∷ ys) = false
same_bytes (x ∷ xs) [] = false
same_bytes (x ∷ xs) (y ∷ ys) = cond (eqb x y) (same_bytes xs ys) false

-- the place of s among names, counted from n, or 0 where it is none of them
unfoldable pub code_from : ℕ → List (List ℕ) → List ℕ → ℕ
code_from n [] s = 0
code_from n (x ∷ xs) s = cond (same_bytes x s) n (code_from (suc n) xs s)

abbrev pub code_in : List (List ℕ) → List ℕ → ℕ
code_in names s = code_from 1 names s

-- bytes cut into names of these lengths, as far as the bytes go
unfoldable pub cut : List ℕ → List ℕ → List (List ℕ)
cut b [] = []
cut b (n ∷ ns) = take n b ∷ cut (drop n b) ns
