-- Lists of events and records: each of them, none of them, those that pass a test. Assumes nothing.
use Prim.Native.Nat.{ℕ}
use mathlib.Core.Path.{◌≡◌, refl, sym, ap, ap₂, ◌∙◌}
use mathlib.Core.List.{List, [], ◌∷◌, ◌++◌, map}
use mathlib.Core.Bool.{Bool, true, false, cond, ◌&&◌}
use lib.Dec.{eqb}
use Rattle.write_report.specs.of_table.Event.{Event}
use Rattle.write_report.specs.of_tree_report.Fields.{kind_of}
use Rattle.write_report.specs.of_tree_report.ReportOf.{only, until}
use Rattle.write_report.proofs.of_tree_report.EncodeLists.{Each, done, more}
use Rattle.write_report.specs.Written.{each, is_empty}
use Rattle.write_table.specs.Laid.{Item, items_of}
use Rattle.write_table.proofs.Writing.{items_append}
use Rattle.write_items.specs.inside.Walk.{first_of}

module _ {A B C : Type 0} (f : B → List C) (g : A → B) where
  pub each_map : (xs : List A) → each f (map g xs) ≡ each (λ (x : A). f (g x)) xs
  each_map [] = refl
  each_map (x ∷ xs) = ap (λ (l : List C). f (g x) ++ l) (each_map xs)

-- what is put for each is what is written for each
module _ {A : Type 0} {P : A → Type 0} (f : A → List Item) (g : A → List Event) (same : (x : A) → P x → f x ≡ items_of (g x)) where
  pub each-items : {xs : List A} → Each P xs → each f xs ≡ items_of (each g xs)
  unfolding items_of
  each-items done = refl
  each-items (more {x = x} {xs = xs} h hs) = ap₂ ◌++◌ (same x h) (each-items hs) ∙ sym (items_append (g x) (each g xs))

-- ---- none of them
module _ {A : Type 0} where
  pub empty-append : (xs ys : List A) → is_empty (xs ++ ys) ≡ (is_empty xs && is_empty ys)
  empty-append [] ys = refl
  empty-append (x ∷ xs) ys = refl

module _ {A B : Type 0} where
  pub empty-map : (f : A → B) (xs : List A) → is_empty (map f xs) ≡ is_empty xs
  empty-map f [] = refl
  empty-map f (x ∷ xs) = refl

  pub empty-each : (f : A → List B) → ((x : A) → is_empty (f x) ≡ false) → (xs : List A) → is_empty (each f xs) ≡ is_empty xs
  empty-each f h [] = refl
  empty-each f h (x ∷ xs) = empty-append (f x) (each f xs) ∙ ap (λ (b : Bool). b && is_empty (each f xs)) (h x)

-- the first of them has kind 0 only where there is none
pub first-empty : {rs : List (List ℕ)} → Each (λ (r : List ℕ). eqb (kind_of r) 0 ≡ false) rs → eqb (kind_of (first_of rs)) 0 ≡ is_empty rs
first-empty done = refl
first-empty (more h hs) = h

-- ---- those that pass a test
pub only-passed : (p : List ℕ → Bool) (rs : List (List ℕ)) → Each (λ (r : List ℕ). p r ≡ true) (only p rs)
only-passed p [] = done
only-passed p (r ∷ rs) = go (p r) refl (only-passed p rs)
  where
    go : (b : Bool) → p r ≡ b → Each (λ (q : List ℕ). p q ≡ true) (only p rs) → Each (λ (q : List ℕ). p q ≡ true) (cond b (r ∷ only p rs) (only p rs))
    go true e h = more e h
    go false e h = h

module _ (p q : List ℕ → Bool) (same : (r : List ℕ) → p r ≡ q r) where
  pub only_same : (rs : List (List ℕ)) → only p rs ≡ only q rs
  only_same [] = refl
  only_same (r ∷ rs) = ap₂ (λ (b : Bool) (l : List (List ℕ)). cond b (r ∷ l) l) (same r) (only_same rs)

  pub until-same : (rs : List (List ℕ)) → until p rs ≡ until q rs
  until-same [] = refl
  until-same (r ∷ rs) = ap₂ (λ (b : Bool) (l : List (List ℕ)). cond b [] (r ∷ l)) (same r) (until-same rs)
