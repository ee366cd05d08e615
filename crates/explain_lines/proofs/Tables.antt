-- A table of texts, by the list of them. Assumes nothing.
use Prim.Native.Nat.{ℕ, zero, suc, ◌<◌, min}
use mathlib.Core.Path.{◌≡◌, refl, sym, ap, ◌∙◌}
use mathlib.Core.List.{List, [], ◌∷◌, ◌++◌}
use native.Mathlib.Nat.{zero-min, min-zero, suc-min-suc, min-le_right}
use native.Mathlib.Omega.{arith}
use lib.ListN.{length, take, drop, get_or}
use Rattle.table.specs.of_area.Area.{first_at}
use Rattle.explain_lines.specs.Lines.{line_in}

-- the first n lines
abbrev pub lines_in : ℕ → List ℕ → List (List ℕ)
lines_in zero s = []
lines_in (suc n) s = take (first_at 10 s) s ∷ lines_in n (drop (suc (first_at 10 s)) s)

line_at : (n i : ℕ) (s : List ℕ) → i < n → line_in i s ≡ get_or (lines_in n s) i []
unfolding line_in
line_at zero i s h = absurd (omega arith)
line_at (suc n) zero s h = refl
line_at (suc n) (suc i) s h = line_at n i (drop (suc (first_at 10 s)) s) (omega arith)

-- the text behind the last stands for all that aren't there
last-for-rest : (l : List (List ℕ)) (d : List ℕ) (k : ℕ) → get_or (l ++ (d ∷ [])) (min k (length l)) [] ≡ get_or l k d
last-for-rest [] d k = rw (min-zero k) refl
last-for-rest (x ∷ l) d zero = rw (zero-min (length (x ∷ l))) refl
last-for-rest (x ∷ l) d (suc k) = rw (suc-min-suc k (length l)) (last-for-rest l d k)

-- a table of the texts l, and of one more for all that aren't there
pub table_at : (s : List ℕ) (l : List (List ℕ)) (d : List ℕ) (n : ℕ) → length l ≡ n → lines_in (suc n) s ≡ l ++ (d ∷ []) → (k : ℕ) → line_in (min k n) s ≡ get_or l k d
table_at s l d n e t k =
    line_at (suc n) (min k n) s (omega (arith, min-le_right k n))
    ∙ ap (λ (x : List (List ℕ)). get_or x (min k n) []) t
    ∙ ap (λ (m : ℕ). get_or (l ++ (d ∷ [])) (min k m) []) (sym e)
    ∙ last-for-rest l d k
