-- Lists of records and of rows. Assumes nothing.
use Prim.Native.Nat.{ℕ}
use mathlib.Core.Bool.{Bool, true, false, not, ◌||◌, false≢true}
use mathlib.Core.List.{List, [], ◌∷◌, ◌++◌, map}
use mathlib.Core.Path.{◌≡◌, refl, ap, ◌∙◌}
use borrow.Author.Tests.{eqb-true, not-true}
use lib.Dec.{eqb}
pub use Rattle.schema.proofs.Tests.{both, and_left, and_right}
pub use Rattle.tree_report.specs.inside.Each.{Each, done, more}
use Rattle.tree_report.specs.ReportOf.{only, until, branches}
use Rattle.tree_report.specs.Encode.{Row, rows_of_each, every}

-- ---- P of each
module _ {A : Type 0} {P : A → Type 0} where
  -- what holds of each of two lists holds of each of them joined
  pub each_append : {xs ys : List A} → Each P xs → Each P ys → Each P (xs ++ ys)
  each_append done q = q
  each_append (more p ps) q = more p (each_append ps q)

  -- what follows from it holds of each too
  pub each_on : {Q : A → Type 0} → ((x : A) → P x → Q x) → {xs : List A} → Each P xs → Each Q xs
  each_on f done = done
  each_on f (more {x = x} p ps) = more (f x p) (each_on f ps)

-- a computed test of every element, as a fact of each
pub every-each : {A : Type 0} (p : A → Bool) (xs : List A) → every p xs ≡ true → Each (λ x. p x ≡ true) xs
every-each p [] e = done
every-each p (x ∷ xs) e = more (and_left (p x) (every p xs) e) (every-each p xs (and_right (p x) (every p xs) e))

-- what holds of every value of f holds of each of a list's
pub each_map : {A B : Type 0} {P : B → Type 0} (f : A → B) → ((x : A) → P (f x)) → (xs : List A) → Each P (map f xs)
each_map f h [] = done
each_map f h (x ∷ xs) = more (h x) (each_map f h xs)

-- what holds of the rows of every element holds of the rows of all
pub each_rows : {A B : Type 0} {P : B → Type 0} (f : A → List B) → ((x : A) → Each P (f x)) → (xs : List A) → Each P (rows_of_each f xs)
each_rows f h [] = done
each_rows f h (x ∷ xs) = each_append (h x) (each_rows f h xs)

-- ---- two lists side by side
pub data Beside {A B : Type 0} (R : A → B → Type 0) : List A → List B → Type 0 where
  ended : Beside R [] []
  beside : {x : A} {y : B} {xs : List A} {ys : List B} → R x y → Beside R xs ys → Beside R (x ∷ xs) (y ∷ ys)

-- beside two lists stand two lists
pub record Parts {A B : Type 0} (R : A → B → Type 0) (a b : List A) (ys : List B) : Type 0 where
  pub front : List B
  pub back : List B
  pub whole : ys ≡ front ++ back
  pub first : Beside R a front
  pub second : Beside R b back

module _ {A B : Type 0} {R : A → B → Type 0} where
  -- what follows from it holds side by side too
  pub beside-on : {S : A → B → Type 0} → ((x : A) (y : B) → R x y → S x y) → {xs : List A} {ys : List B} → Beside R xs ys → Beside S xs ys
  beside-on f ended = ended
  beside-on f (beside {x = x} {y = y} r h) = beside (f x y r) (beside-on f h)

  -- what holds of each on one side, with R, holds of each on the other
  pub each-beside : {P : A → Type 0} {Q : B → Type 0} → ((x : A) (y : B) → P x → R x y → Q y) → {xs : List A} {ys : List B} → Each P xs → Beside R xs ys → Each Q ys
  each-beside f done ended = done
  each-beside f (more {x = x} p ps) (beside {y = y} r h) = more (f x y p r) (each-beside f ps h)

  pub parts : (a b : List A) {ys : List B} → Beside R (a ++ b) ys → Parts R a b ys
  parts [] b {ys} h = record { front = []; back = ys; whole = refl; first = ended; second = h }
  parts (x ∷ a) b (beside {y = y} r h) =
      let p = parts a b h in
      record { front = y ∷ p.front; back = p.back; whole = ap (λ (l : List B). y ∷ l) p.whole; first = beside r p.first; second = p.second }

  pub beside-append : {a b : List A} {c d : List B} → Beside R a c → Beside R b d → Beside R (a ++ b) (c ++ d)
  beside-append ended h = h
  beside-append (beside r g) h = beside r (beside-append g h)

-- ---- the records that pass a test, and those behind one
module _ (p : List ℕ → Bool) where
  -- if all pass, all are chosen
  pub only-all : {rs : List (List ℕ)} → Each (λ r. p r ≡ true) rs → only p rs ≡ rs
  only-all done = refl
  only-all (more {x = r} h hs) = rw h (ap (λ (l : List (List ℕ)). r ∷ l) (only-all hs))

  -- a record that passes is chosen
  pub only-first : (r : List ℕ) (rs : List (List ℕ)) → p r ≡ true → only p (r ∷ rs) ≡ r ∷ only p rs
  only-first r rs e = rw e refl

  -- a record that doesn't pass is left out
  pub only-rest : (r : List ℕ) (rs : List (List ℕ)) → p r ≡ false → only p (r ∷ rs) ≡ only p rs
  only-rest r rs e = rw e refl

  -- if none pass, none are chosen
  pub only_none : {rs : List (List ℕ)} → Each (λ r. p r ≡ false) rs → only p rs ≡ []
  only_none done = refl
  only_none (more h hs) = rw h (only_none hs)

  -- those that pass, before those that don't, are what is chosen
  pub only-front : {rs qs : List (List ℕ)} → Each (λ r. p r ≡ true) rs → Each (λ r. p r ≡ false) qs → only p (rs ++ qs) ≡ rs
  only-front done k = only_none k
  only-front (more {x = r} h hs) k = rw h (ap (λ (l : List (List ℕ)). r ∷ l) (only-front hs k))

  -- those that don't pass, before others, are left out
  pub only-behind : {rs : List (List ℕ)} (qs : List (List ℕ)) → Each (λ r. p r ≡ false) rs → only p (rs ++ qs) ≡ only p qs
  only-behind qs done = refl
  only-behind qs (more h hs) = rw h (only-behind qs hs)

  -- records that begin no branch, before others, are left out
  pub branches-behind : {rs : List (List ℕ)} (qs : List (List ℕ)) → Each (λ r. p r ≡ false) rs → branches p (rs ++ qs) ≡ branches p qs
  branches-behind qs done = refl
  branches-behind qs (more h hs) = rw h (branches-behind qs hs)

  -- what follows is nothing, or begins with one that passes
  abbrev pub Starts : List (List ℕ) → Type 0
  Starts [] = Unit {0}
  Starts (q ∷ qs) = p q ≡ true

  -- the records up to the next that begins a branch
  pub until-next : {rs : List (List ℕ)} (qs : List (List ℕ)) → Each (λ r. p r ≡ false) rs → Starts qs → until p (rs ++ qs) ≡ rs
  until-next [] done e = refl
  until-next (q ∷ qs) done e = rw e refl
  until-next [] (more {x = r} h hs) e = rw h (ap (λ (l : List (List ℕ)). r ∷ l) (until-next [] hs e))
  until-next (q ∷ qs) (more {x = r} h hs) e = rw h (ap (λ (l : List (List ℕ)). r ∷ l) (until-next (q ∷ qs) hs e))

-- ---- which kinds stand in a list
abbrev pub among : List ℕ → ℕ → Bool
among [] k = false
among (j ∷ js) k = eqb k j || among js k

abbrev pub Kinds : List ℕ → List Row → Type 0
Kinds ks rows = Each (λ r. among ks r.kind ≡ true) rows

among-more : (b c : Bool) → c ≡ true → (b || c) ≡ true
among-more true c e = refl
among-more false c e = e

pub kinds-more : (j : ℕ) (ks : List ℕ) {rows : List Row} → Kinds ks rows → Kinds (j ∷ ks) rows
kinds-more j ks h = each_on (λ r e. among-more (eqb r.kind j) (among ks r.kind) e) h

-- a test that fails at all of them
pub missed-one : (q : ℕ → Bool) (ks : List ℕ) (k : ℕ) → every (λ j. not (q j)) ks ≡ true → among ks k ≡ true → q k ≡ false
missed-one q [] k e h = absurd (false≢true h)
missed-one q (j ∷ js) k e h = go (missed-one q js k (and_right (not (q j)) (every (λ i. not (q i)) js) e)) (eqb k j) refl h
  where
    go : (among js k ≡ true → q k ≡ false) → (t : Bool) → eqb k j ≡ t → (t || among js k) ≡ true → q k ≡ false
    go f true z y = ap q (eqb-true k j z) ∙ not-true (q j) (and_left (not (q j)) (every (λ i. not (q i)) js) e)
    go f false z y = f y
