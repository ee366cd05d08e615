-- What holds of each record holds of those that a part of a report is read from. Assumes nothing.
use Prim.Native.Nat.{ℕ}
use mathlib.Core.Bool.{Bool, true, false, cond}
use mathlib.Core.List.{List, [], ◌∷◌, map}
use mathlib.Core.Path.{◌≡◌, refl}
use Rattle.tree_layout.specs.of_tree_report.ReportOf.{Branch, only, until, branches}
use Rattle.tree_layout.specs.of_tree_report.inside.Cells.{Row, rows_of_each, every}
use Rattle.tree_layout.proofs.of_tree_report.EncodeLists.{both, Each, done, more, each_append}

pub each-every : {A : Type 0} (p : A → Bool) {xs : List A} → Each (λ x. p x ≡ true) xs → every p xs ≡ true
each-every p done = refl
each-every p (more h hs) = both h (each-every p hs)

pub map_each : {A B : Type 0} {P : A → Type 0} {Q : B → Type 0} (f : A → B) → ((x : A) → P x → Q (f x)) → {xs : List A} → Each P xs → Each Q (map f xs)
map_each f g done = done
map_each f g (more {x = x} h hs) = more (g x h) (map_each f g hs)

pub rows-each : {A : Type 0} {P : A → Type 0} {Q : Row → Type 0} (f : A → List Row) → ((x : A) → P x → Each Q (f x)) → {xs : List A} → Each P xs → Each Q (rows_of_each f xs)
rows-each f g done = done
rows-each f g (more {x = x} h hs) = each_append (g x h) (rows-each f g hs)

-- an element's record passes the test, and P holds of it and of each behind it
pub record Grown (P : List ℕ → Type 0) (p : List ℕ → Bool) (b : Branch) : Type 0 where
  pub top : P b.head
  pub passes : p b.head ≡ true
  pub under : Each P b.below

-- P holds of a record that passes
abbrev pub Passing : (List ℕ → Type 0) → (List ℕ → Bool) → List ℕ → Type 0
Passing P p r = P r × (p r ≡ true)

module _ {P : List ℕ → Type 0} (p : List ℕ → Bool) where
  pub each-only : {rs : List (List ℕ)} → Each P rs → Each (Passing P p) (only p rs)
  each-only done = done
  each-only (more {x = r} {xs = rs} h hs) = go (p r) refl (each-only hs)
    where
      go : (b : Bool) → p r ≡ b → Each (Passing P p) (only p rs) → Each (Passing P p) (cond b (r ∷ only p rs) (only p rs))
      go true e ih = more (h, e) ih
      go false e ih = ih

  pub each-until : {rs : List (List ℕ)} → Each P rs → Each P (until p rs)
  each-until done = done
  each-until (more {x = r} {xs = rs} h hs) = go (p r) (each-until hs)
    where
      go : (b : Bool) → Each P (until p rs) → Each P (cond b [] (r ∷ until p rs))
      go true ih = done
      go false ih = more h ih

  pub each-branches : {rs : List (List ℕ)} → Each P rs → Each (Grown P p) (branches p rs)
  each-branches done = done
  each-branches (more {x = r} {xs = rs} h hs) = go (p r) refl (each-branches hs)
    where
      go : (b : Bool) → p r ≡ b → Each (Grown P p) (branches p rs) → Each (Grown P p) (cond b (record { head = r; below = until p rs } ∷ branches p rs) (branches p rs))
      go true e ih = more (record { top = h; passes = e; under = each-until hs }) ih
      go false e ih = ih
