-- The first repeat of attributes in order of their keys. Assumes nothing.
use Prim.Native.Nat.{ℕ, zero, suc, ◌+◌, ◌-◌, ◌≤◌, ◌<◌}
use mathlib.Core.Path.{◌≡◌, refl, sym, ap, subst, ◌∙◌}
use mathlib.Core.Logic.{◌⊎◌, inl, inr}
use mathlib.Core.Bool.{Bool, true, false, cond}
use mathlib.Core.List.{List, [], ◌∷◌}
use native.Mathlib.Omega.{arith}
use borrow.Author.Tests.{eq-eqb, eqb-true, eqb-false, ltb-true, ltb-false}
use lib.Dec.{eqb, ltb}
use lib.ListN.{length, get_or}
use Rattle.key_sort.specs.of_names.Names.{same_bytes}
use Rattle.key_sort.proofs.of_names.NameLaws.{same_refl, same_true}
use Rattle.key_sort.specs.of_table.Event.{key_at}
use Rattle.key_sort.specs.of_key_order.inside.KeyOrder.{Comes, ComesIn}
use Rattle.key_sort.proofs.of_key_order.Ordering.{comes-same, comes-tied}
use Rattle.key_sort.specs.inside.Arranged.{count, numbers, Arranged}
use Rattle.key_sort.proofs.Counting.{count-in, Placed, placed, ordered_at}
use Rattle.read_sorted.specs.inside.Repeats.{Unrepeated, Repeated, FirstRepeat, alike, Hit, FirstIn}

-- what is counted among the numbers of a range is one of them, and is so once
count-range : (x first n : ℕ) → 0 < count x (numbers first n) → (first ≤ x) × (x < first + n)
unfolding count numbers
count-range x first zero h = absurd (omega arith)
count-range x first (suc n) h = go (eqb x first) refl h (count-range x (suc first) n)
  where
    go : (t : Bool) → eqb x first ≡ t → 0 < cond t (suc (count x (numbers (suc first) n))) (count x (numbers (suc first) n))
        → (0 < count x (numbers (suc first) n) → (suc first ≤ x) × (x < suc first + n)) → (first ≤ x) × (x < first + suc n)
    go true q p f = let e = eqb-true x first q in (omega arith, omega arith)
    go false q p f = let r = f p in (omega (arith, r.0), omega (arith, r.1))

count-once : (x first n : ℕ) → count x (numbers first n) ≤ 1
unfolding count numbers
count-once x first zero = omega arith
count-once x first (suc n) = go (eqb x first) refl (count-once x (suc first) n)
  where
    none : x ≡ first → (t : Bool) → ltb 0 (count x (numbers (suc first) n)) ≡ t → suc (count x (numbers (suc first) n)) ≤ 1
    none e true q = let r = count-range x (suc first) n (ltb-true 0 (count x (numbers (suc first) n)) q) in absurd (omega (arith, r.0))
    none e false q = let r = ltb-false 0 (count x (numbers (suc first) n)) q in omega arith

    go : (t : Bool) → eqb x first ≡ t → count x (numbers (suc first) n) ≤ 1 → cond t (suc (count x (numbers (suc first) n))) (count x (numbers (suc first) n)) ≤ 1
    go true q h = none (eqb-true x first q) (ltb 0 (count x (numbers (suc first) n))) refl
    go false q h = h

-- a number that stands somewhere is counted, and twice where it stands twice
more : (x y : ℕ) (l : List ℕ) → count x l ≤ count x (y ∷ l)
unfolding count
more x y l = go (eqb x y)
  where
    go : (t : Bool) → count x l ≤ cond t (suc (count x l)) (count x l)
    go true = omega arith
    go false = omega arith

one_more : (x : ℕ) (l : List ℕ) → count x (x ∷ l) ≡ suc (count x l)
unfolding count
one_more x l = rw (eq-eqb x x refl) refl

count_at : (l : List ℕ) (q : ℕ) → q < length l → 0 < count (get_or l q 0) l
count_at [] q h = absurd (omega arith)
count_at (y ∷ ys) zero h = let e = one_more y ys in omega arith
count_at (y ∷ ys) (suc q) h = let e = more (get_or ys q 0) y ys in let f = count_at ys q (omega arith) in omega arith

count-twice : (l : List ℕ) (p q : ℕ) → p < q → q < length l → get_or l p 0 ≡ get_or l q 0 → 2 ≤ count (get_or l q 0) l
count-twice [] p q h k e = absurd (omega arith)
count-twice (y ∷ ys) p zero h k e = absurd (omega arith)
count-twice (y ∷ ys) zero (suc q) h k e =
    let f = count_at ys q (omega arith) in
    let g : count (get_or ys q 0) (y ∷ ys) ≡ suc (count (get_or ys q 0) ys) = ap (λ (z : ℕ). count (get_or ys q 0) (z ∷ ys)) e ∙ one_more (get_or ys q 0) ys in
    omega arith
count-twice (y ∷ ys) (suc p) (suc q) h k e = let f = count-twice ys p q (omega arith) (omega arith) e in let g = more (get_or ys q 0) y ys in omega arith

module _ (attributes source l : List ℕ) (first end : ℕ) (wide : first ≤ end) (a : Arranged (ComesIn attributes source) first (end - first) l) where
  member : (j : ℕ) → first ≤ j → j < end → Placed j l
  member j h k = placed j l (subst (λ (n : ℕ). 0 < n) (sym (a.all j)) (count-in j first (end - first) h (omega arith)))

  inside : (q : ℕ) → q < length l → (first ≤ get_or l q 0) × (get_or l q 0 < end)
  inside q h =
      let r = count-range (get_or l q 0) first (end - first) (subst (λ (n : ℕ). 0 < n) (a.all (get_or l q 0)) (count_at l q h)) in
      (r.0, omega (arith, r.1))

  -- in the order of the list
  in_order : {i j : ℕ} (p q : ℕ) → get_or l p 0 ≡ i → get_or l q 0 ≡ j → p < q → q < length l → ComesIn attributes source i j
  in_order {i} {j} p q e f h k =
      subst (λ (y : ℕ). ComesIn attributes source i y) f (subst (λ (x : ℕ). ComesIn attributes source x (get_or l q 0)) e (ordered_at (ComesIn attributes source) l p q a.ordered h k))

  abbrev key : ℕ → List ℕ
  key j = key_at attributes source j

  -- the number before j in the list has its key, where an earlier attribute has
  neighbour : (i j p q : ℕ) → key i ≡ key j → get_or l p 0 ≡ i → get_or l (q + 1) 0 ≡ j → p ≤ q → q + 1 < length l → key (get_or l q 0) ≡ key j
  neighbour i j p q e f g h k = go (ltb p q) refl
    where
      go : (t : Bool) → ltb p q ≡ t → key (get_or l q 0) ≡ key j
      go true o =
          let s : ComesIn attributes source i (get_or l q 0) = in_order p q f refl (ltb-true p q o) (omega arith) in
          let t : ComesIn attributes source (get_or l q 0) j = in_order q (q + 1) refl g (omega arith) k in
          sym (comes-same (key i) (key (get_or l q 0)) s (subst (λ (x : List ℕ). Comes (key (get_or l q 0)) x (get_or l q 0) j) (sym e) t)) ∙ e
      go false o = let n = ltb-false p q o in let z : p ≡ q = omega arith in ap key (sym (ap (λ (x : ℕ). get_or l x 0) z) ∙ f) ∙ e

  module _ {r : ℕ} (f : FirstIn attributes source l end r) where
    never : (i j : ℕ) → first ≤ i → i < j → j < r → key i ≡ key j → ⊥
    never i j h k o e = go (ltb x.at y.at) refl
      where
        m : r ≤ end
        m = f.most

        x : Placed i l
        x = member i h (omega arith)

        y : Placed j l
        y = member j (omega arith) (omega arith)

        go : (t : Bool) → ltb x.at y.at ≡ t → ⊥
        go true s =
            let n : x.at < y.at = ltb-true x.at y.at s in
            let z : y.at - 1 + 1 ≡ y.at = omega arith in
            let u : get_or l (y.at - 1 + 1) 0 ≡ j = ap (λ (q : ℕ). get_or l q 0) z ∙ y.is in
            let v : y.at - 1 + 1 < length l = omega (arith, y.low) in
            let w : key (get_or l (y.at - 1) 0) ≡ key j = neighbour i j x.at (y.at - 1) e x.is u (omega arith) v in
            let b : alike attributes source l (y.at - 1) ≡ true =
            ap (λ (q : List ℕ). same_bytes q (key (get_or l (y.at - 1 + 1) 0))) (w ∙ ap key (sym u)) ∙ same_refl (key (get_or l (y.at - 1 + 1) 0)) in
            let c = f.passed (y.at - 1) v b in
            omega arith
        go false s =
            let n = ltb-false x.at y.at s in
            apart (eqb x.at y.at) refl n
          where
            apart : (t : Bool) → eqb x.at y.at ≡ t → y.at ≤ x.at → ⊥
            apart true q n = let z = eqb-true x.at y.at q in let d : i ≡ j = sym x.is ∙ ap (λ (p : ℕ). get_or l p 0) z ∙ y.is in omega arith
            apart false q n =
                let z = eqb-false x.at y.at q in
                let d = comes-tied (key j) (key i) (sym e) (in_order y.at x.at y.is x.is (omega (arith, z)) x.low) in
                omega arith

    free : Unrepeated attributes source first r
    free i j h k o = go (same_bytes (key i) (key j)) refl
      where
        go : (t : Bool) → same_bytes (key i) (key j) ≡ t → t ≡ false
        go true q = absurd (never i j h k o (same_true (key i) (key j) q))
        go false q = refl

    repeats : (r ≡ end) ⊎ Hit attributes source l r → (r ≡ end) ⊎ Repeated attributes source first r
    repeats (inl e) = inl e
    repeats (inr h) =
        let p = h.place in
        let k : p + 1 < length l = h.low in
        let u = inside p (omega arith) in
        let e : key (get_or l p 0) ≡ key (get_or l (p + 1) 0) = same_true (key (get_or l p 0)) (key (get_or l (p + 1) 0)) h.same in
        let o = comes-tied (key (get_or l p 0)) (key (get_or l (p + 1) 0)) e (in_order p (p + 1) refl refl (omega arith) k) in
        let i = h.is in
        inr (record {
          earlier = get_or l p 0;
          from = u.0;
          before = less p k i o;
          same = ap (λ (x : ℕ). same_bytes (key (get_or l p 0)) (key x)) i ∙ h.same;
        })
      where
        less : (p : ℕ) → p + 1 < length l → r ≡ get_or l (p + 1) 0 → get_or l p 0 ≤ get_or l (p + 1) 0 → get_or l p 0 < r
        less p k i o = apart (ltb (get_or l p 0) (get_or l (p + 1) 0)) refl
          where
            apart : (t : Bool) → ltb (get_or l p 0) (get_or l (p + 1) 0) ≡ t → get_or l p 0 < r
            apart true s = let n = ltb-true (get_or l p 0) (get_or l (p + 1) 0) s in omega arith
            apart false s =
                let n = ltb-false (get_or l p 0) (get_or l (p + 1) 0) s in
                let z : get_or l p 0 ≡ get_or l (p + 1) 0 = omega arith in
                let b = count-twice l p (p + 1) (omega arith) k z in
                let c = a.all (get_or l (p + 1) 0) in
                let d = count-once (get_or l (p + 1) 0) first (end - first) in
                absurd (omega arith)

    pub first_of : FirstRepeat attributes source first end r
    first_of = record { free = free; most = f.most; repeats = repeats f.hit }
