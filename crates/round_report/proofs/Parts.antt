-- Tests and properties of lists that are put together. Assumes nothing.
use Prim.Native.Nat.{ℕ}
use mathlib.Core.Bool.{Bool, true}
use mathlib.Core.List.{List, [], ◌∷◌, ◌++◌, append_assoc}
use mathlib.Core.Path.{◌≡◌, refl, sym, ap, ◌∙◌}
use lib.ListN.{length}
use Rattle.round_rooms.specs.of_tree_report.inside.Cells.{Row, rows_of_each, every}
use Rattle.round_rooms.proofs.of_tree_report.EncodeLists.{both, and_left, and_right, Each, done, more}
use Rattle.round_rooms.specs.of_read_element.Attributes.{changed}
use Rattle.round_rooms.specs.of_write_report.Written.{each}
use Rattle.round_case.proofs.Conditions.{every_front, every-behind}

-- ---- tests
module _ {A : Type 0} (p : A → Bool) where
  pub every_append : (xs ys : List A) → every p xs ≡ true → every p ys ≡ true → every p (xs ++ ys) ≡ true
  every_append [] ys e h = h
  every_append (x ∷ xs) ys e h = both (and_left (p x) (every p xs) e) (every_append xs ys (and_right (p x) (every p xs) e) h)

  pub every-parts : {B : Type 0} (f : B → List A) (xs : List B) → every p (each f xs) ≡ true → Each (λ x. every p (f x) ≡ true) xs
  every-parts f [] e = done
  every-parts f (x ∷ xs) e = more (every_front p (f x) (each f xs) e) (every-parts f xs (every-behind p (f x) (each f xs) e))

pub every-rows : {B : Type 0} (p : Row → Bool) (f : B → List Row) (xs : List B) → every p (rows_of_each f xs) ≡ true → Each (λ x. every p (f x) ≡ true) xs
every-rows p f [] e = done
every-rows p f (x ∷ xs) e = more (every_front p (f x) (rows_of_each f xs) e) (every-rows p f xs (every-behind p (f x) (rows_of_each f xs) e))

-- ---- parts of parts
module _ {A B : Type 0} (f : A → List B) where
  pub each-joined : (xs ys : List A) → each f (xs ++ ys) ≡ each f xs ++ each f ys
  each-joined [] ys = refl
  each-joined (x ∷ xs) ys = ap (λ (l : List B). f x ++ l) (each-joined xs ys) ∙ sym (append_assoc (f x) (each f xs) (each f ys))

  pub each-nested : {C : Type 0} (g : C → List A) (xs : List C) → each f (each g xs) ≡ each (λ x. each f (g x)) xs
  each-nested g [] = refl
  each-nested g (x ∷ xs) = each-joined (g x) (each g xs) ∙ ap (λ (l : List B). each f (g x) ++ l) (each-nested g xs)

pub every-nested : {A B C : Type 0} (p : B → Bool) (f : A → List B) (g : C → List A) (xs : List C) → every p (each f (each g xs)) ≡ true → Each (λ x. every p (each f (g x)) ≡ true) xs
every-nested p f g xs e = every-parts p (λ x. each f (g x)) xs (sym (ap (every p) (each-nested f g xs)) ∙ e)

-- ---- properties
module _ {A : Type 0} {P : A → Type 0} where
  pub each-front : (xs ys : List A) → Each P (xs ++ ys) → Each P xs
  each-front [] ys h = done
  each-front (x ∷ xs) ys (more p ps) = more p (each-front xs ys ps)

  pub each_back : (xs ys : List A) → Each P (xs ++ ys) → Each P ys
  each_back [] ys h = h
  each_back (x ∷ xs) ys (more p ps) = each_back xs ys ps

  pub each-split : {B : Type 0} (f : B → List A) (xs : List B) → Each P (each f xs) → Each (λ x. Each P (f x)) xs
  each-split f [] h = done
  each-split f (x ∷ xs) h = more (each-front (f x) (each f xs) h) (each-split f xs (each_back (f x) (each f xs) h))

  pub each-with : {Q : A → Type 0} {xs : List A} → Each P xs → Each Q xs → Each (λ x. P x × Q x) xs
  each-with done h = done
  each-with (more p ps) (more q qs) = more (p, q) (each-with ps qs)

-- ---- the record behind others
pub changed-at : (f : List ℕ → List ℕ) (before : List (List ℕ)) (r : List ℕ) (rest : List (List ℕ)) → changed (length before) f (before ++ (r ∷ rest)) ≡ before ++ (f r ∷ rest)
changed-at f [] r rest = refl
changed-at f (b ∷ before) r rest = ap (λ (l : List (List ℕ)). b ∷ l) (changed-at f before r rest)
