-- The last of a list, and the rows of a list's elements. Assumes nothing.
use Prim.Native.Nat.{ℕ}
use mathlib.Core.List.{List, [], ◌∷◌, ◌++◌, append_assoc, append-nil}
use mathlib.Core.Option.{none, some}
use mathlib.Core.Path.{◌≡◌, refl, sym, ap, ◌∙◌}
use native.Mathlib.Omega.{arith}
use Rattle.tree_placed.specs.of_tree_report.inside.Cells.{Row, rows_of_each}
use Rattle.build_report.specs.Operations.{on_last, last_in}
use Rattle.build_report.specs.Stands.{all_but_last}

module _ {A : Type 0} where
  pub last-split : (xs : List A) {x : A} → last_in xs ≡ some x → xs ≡ all_but_last xs ++ (x ∷ [])
  last-split [] {x} e = let z : ◌≡◌ {A = ℕ} 0 1 = cc in absurd (omega arith)
  last-split (y ∷ []) {x} e = let z : y ≡ x = cc in ap (λ (a : A). a ∷ []) z
  last-split (y ∷ (z ∷ zs)) e = ap (λ (l : List A). y ∷ l) (last-split (z ∷ zs) e)

  pub last_none : (xs : List A) → last_in xs ≡ none → xs ≡ []
  last_none [] e = refl
  last_none (y ∷ []) e = let z : ◌≡◌ {A = ℕ} 0 1 = cc in absurd (omega arith)
  last_none (y ∷ (z ∷ zs)) e = let n : z ∷ zs ≡ [] = last_none (z ∷ zs) e in let q : ◌≡◌ {A = ℕ} 0 1 = cc in absurd (omega arith)

  pub last-append : (xs : List A) (x : A) → last_in (xs ++ (x ∷ [])) ≡ some x
  last-append [] x = refl
  last-append (y ∷ []) x = refl
  last-append (y ∷ (z ∷ zs)) x = last-append (z ∷ zs) x

  pub others-append : (xs : List A) (x : A) → all_but_last (xs ++ (x ∷ [])) ≡ xs
  others-append [] x = refl
  others-append (y ∷ []) x = refl
  others-append (y ∷ (z ∷ zs)) x = ap (λ (l : List A). y ∷ l) (others-append (z ∷ zs) x)

  -- ---- the last one changed
  pub on-last : (f : A → A) (xs : List A) {x : A} → last_in xs ≡ some x → on_last f xs ≡ all_but_last xs ++ (f x ∷ [])
  on-last f [] {x} e = let z : ◌≡◌ {A = ℕ} 0 1 = cc in absurd (omega arith)
  on-last f (y ∷ []) {x} e = let z : y ≡ x = cc in ap (λ (a : A). f a ∷ []) z
  on-last f (y ∷ (z ∷ zs)) e = ap (λ (l : List A). y ∷ l) (on-last f (z ∷ zs) e)

  pub last_on : (f : A → A) (xs : List A) {x : A} → last_in xs ≡ some x → last_in (on_last f xs) ≡ some (f x)
  last_on f xs {x} e = ap last_in (on-last f xs e) ∙ last-append (all_but_last xs) (f x)

  pub others-on : (f : A → A) (xs : List A) {x : A} → last_in xs ≡ some x → all_but_last (on_last f xs) ≡ all_but_last xs
  others-on f xs {x} e = ap all_but_last (on-last f xs e) ∙ others-append (all_but_last xs) (f x)

  -- a change that keeps the last one changes nothing
  pub on_last-same : (f : A → A) (xs : List A) {x : A} → last_in xs ≡ some x → f x ≡ x → on_last f xs ≡ xs
  on_last-same f xs {x} e h = on-last f xs e ∙ ap (λ (a : A). all_but_last xs ++ (a ∷ [])) h ∙ sym (last-split xs e)

  -- two changes of it
  pub on_last-twice : (f g : A → A) (xs : List A) {x : A} → last_in xs ≡ some x → on_last f (on_last g xs) ≡ on_last (λ a. f (g a)) xs
  on_last-twice f g xs {x} e =
      on-last f (on_last g xs) (last_on g xs e) ∙ ap (λ (l : List A). l ++ (f (g x) ∷ [])) (others-on g xs e) ∙ sym (on-last (λ a. f (g a)) xs e)

  -- ---- rows
  pub rows_append : (f : A → List Row) (xs ys : List A) → rows_of_each f (xs ++ ys) ≡ rows_of_each f xs ++ rows_of_each f ys
  rows_append f [] ys = refl
  rows_append f (x ∷ xs) ys = ap (λ (l : List Row). f x ++ l) (rows_append f xs ys) ∙ sym (append_assoc (f x) (rows_of_each f xs) (rows_of_each f ys))

  pub rows_more : (f : A → List Row) (xs : List A) (x : A) → rows_of_each f (xs ++ (x ∷ [])) ≡ rows_of_each f xs ++ f x
  rows_more f xs x = rows_append f xs (x ∷ []) ∙ ap (λ (l : List Row). rows_of_each f xs ++ l) (append-nil (f x))

  pub rows_last : (f : A → List Row) (xs : List A) {x : A} → last_in xs ≡ some x → rows_of_each f xs ≡ rows_of_each f (all_but_last xs) ++ f x
  rows_last f xs {x} e = ap (rows_of_each f) (last-split xs e) ∙ rows_more f (all_but_last xs) x

  pub rows-on-last : (f : A → List Row) (g : A → A) (xs : List A) {x : A} → last_in xs ≡ some x
      → rows_of_each f (on_last g xs) ≡ rows_of_each f (all_but_last xs) ++ f (g x)
  rows-on-last f g xs {x} e = ap (rows_of_each f) (on-last g xs e) ∙ rows_more f (all_but_last xs) (g x)
