-- What wins along a list is the first such member, whatever order decides. Assumes nothing.
use Prim.Native.Nat.{◌≤◌}
use mathlib.Core.Path.{◌≡◌, refl, sym, ap, ◌∙◌}
use mathlib.Core.List.{List, [], ◌∷◌, ◌++◌}
use mathlib.Core.Bool.{Bool, true, false, cond, true≢false}
use native.Mathlib.Omega.{arith}
use borrow.Author.Tests.{lt-ltb, le-ltb, ltb-true, ltb-false}
use Rattle.tree_layout.specs.of_timestamp.declared.Moment.{Moment}
use Rattle.starts.specs.Starts.{nanos_to, is_earlier, is_later, first_by, earliest, latest}
use Rattle.starts.specs.FirstLast.{All, First}

pub record Order (wins : Moment → Moment → Bool) : Type 0 where
  pub itself : (a : Moment) → wins a a ≡ false
  pub along : (a b c : Moment) → wins a b ≡ true → wins b c ≡ true → wins a c ≡ true
  pub past : (a b c : Moment) → wins a b ≡ true → wins c b ≡ false → wins a c ≡ true

abbrev head_or : Moment → List Moment → Moment
head_or m [] = m
head_or m (x ∷ xs) = x

abbrev rest : List Moment → List Moment
rest [] = []
rest (x ∷ xs) = xs

module _ {wins : Moment → Moment → Bool} (o : Order wins) where
  beaten : (x m y : Moment) → wins x m ≡ true → wins x y ≡ false → (b : Bool) → wins m y ≡ b → b ≡ false
  beaten x m y e p true f = absurd (true≢false (sym (o.along x m y e f) ∙ p))
  beaten x m y e p false f = refl

  -- where it began doesn't win against it
  pub kept : (m : Moment) (ms : List Moment) → wins m (first_by wins m ms) ≡ false
  kept m [] = o.itself m
  kept m (x ∷ xs) = go (wins x m) refl (kept x xs) (kept m xs)
    where
      go : (b : Bool) → wins x m ≡ b → wins x (first_by wins x xs) ≡ false → wins m (first_by wins m xs) ≡ false → wins m (first_by wins (cond b x m) xs) ≡ false
      go true e p q = beaten x m (first_by wins x xs) e p (wins m (first_by wins x xs)) refl
      go false e p q = q

  -- one that doesn't win stands behind m, or behind m before what wins against m
  stays : (m x y : Moment) (xs front back : List Moment) → wins x m ≡ false → m ∷ xs ≡ front ++ (y ∷ back)
      → All (λ z. wins y z ≡ true) front → All (λ z. wins z y ≡ false) back → First wins y (m ∷ x ∷ xs)
  stays m x y xs [] back h e a b =
      let same : m ≡ y = ap (head_or m) e in
      record {
        front = [];
        back = x ∷ xs;
        member = ap (λ (z : Moment). z ∷ x ∷ xs) same;
        before = tt;
        behind = (rw (sym same) h, rw (ap rest e) b);
      }
  stays m x y xs (z ∷ zs) back h e a b =
      let same : m ≡ z = ap (head_or m) e in
      let won : wins y m ≡ true = rw same a.0 in
      record {
        front = m ∷ x ∷ zs;
        back = back;
        member = ap (λ (l : List Moment). m ∷ x ∷ l) (ap rest e);
        before = (won, (o.past y m x won h, a.1));
        behind = b;
      }

  -- one that wins stands in front of all that it is behind
  goes : (m x y : Moment) (xs front back : List Moment) → wins x m ≡ true → x ∷ xs ≡ front ++ (y ∷ back)
      → All (λ z. wins y z ≡ true) front → All (λ z. wins z y ≡ false) back → First wins y (m ∷ x ∷ xs)
  goes m x y xs [] back h e a b =
      let same : x ≡ y = ap (head_or x) e in
      record {
        front = m ∷ [];
        back = back;
        member = ap (λ (l : List Moment). m ∷ l) e;
        before = (rw (sym same) h, tt);
        behind = b;
      }
  goes m x y xs (z ∷ zs) back h e a b =
      let same : x ≡ z = ap (head_or x) e in
      let won : wins y x ≡ true = rw same a.0 in
      record {
        front = m ∷ z ∷ zs;
        back = back;
        member = ap (λ (l : List Moment). m ∷ l) e;
        before = (o.along y x m won h, a);
        behind = b;
      }

  pub first-wins : (m : Moment) (ms : List Moment) → First wins (first_by wins m ms) (m ∷ ms)
  first-wins m [] = record { front = []; back = []; member = refl; before = tt; behind = tt }
  first-wins m (x ∷ xs) = go (wins x m) refl (first-wins x xs) (first-wins m xs)
    where
      go : (b : Bool) → wins x m ≡ b → First wins (first_by wins x xs) (x ∷ xs) → First wins (first_by wins m xs) (m ∷ xs)
          → First wins (first_by wins (cond b x m) xs) (m ∷ x ∷ xs)
      go true e p q = goes m x (first_by wins x xs) xs p.front p.back e p.member p.before p.behind
      go false e p q = stays m x (first_by wins m xs) xs q.front q.back e q.member q.before q.behind

pub earlier-order : Order is_earlier
earlier-order = record {
  itself = λ a. le-ltb (nanos_to a) (nanos_to a) (omega arith);
  along = λ a b c p q. lt-ltb (nanos_to a) (nanos_to c) (omega (arith, ltb-true (nanos_to a) (nanos_to b) p, ltb-true (nanos_to b) (nanos_to c) q));
  past = λ a b c p q. lt-ltb (nanos_to a) (nanos_to c) (omega (arith, ltb-true (nanos_to a) (nanos_to b) p, ltb-false (nanos_to c) (nanos_to b) q));
}

pub later-order : Order is_later
later-order = record {
  itself = λ a. le-ltb (nanos_to a) (nanos_to a) (omega arith);
  along = λ a b c p q. lt-ltb (nanos_to c) (nanos_to a) (omega (arith, ltb-true (nanos_to b) (nanos_to a) p, ltb-true (nanos_to c) (nanos_to b) q));
  past = λ a b c p q. lt-ltb (nanos_to c) (nanos_to a) (omega (arith, ltb-true (nanos_to b) (nanos_to a) p, ltb-false (nanos_to b) (nanos_to c) q));
}

pub in_order : (m : Moment) (ms : List Moment) → nanos_to (earliest m ms) ≤ nanos_to (latest m ms)
in_order m ms =
    let a = ltb-false (nanos_to m) (nanos_to (earliest m ms)) (kept earlier-order m ms) in
    let b = ltb-false (nanos_to (latest m ms)) (nanos_to m) (kept later-order m ms) in
    omega (arith, a, b)
