-- Laws of the chain: push, pop, other records, nothing open. Assumes nothing.
use Prim.Native.Nat.{ℕ, zero, suc, ◌+◌, ◌-◌, ◌*◌, ◌≤◌, ◌<◌}
use mathlib.Core.Path.{◌≡◌, refl, sym, ap, ◌∙◌, subst}
use mathlib.Core.List.{List, [], ◌∷◌, ◌++◌, append_assoc, append-nil}
use native.Mathlib.Omega.{arith}
use lib.ListN.{length, get_or, set, replicate, length-append, length-set, length-replicate, get_or-append}
use lib.Seq.{set-set, set_comm, set-get_or, get_or-set_same, get_or-set_other, get_or-append-add}
use Rattle.xml_machine.specs.Tokens.{Rec, rec, flat, laid_out}
use Rattle.xml_stack.specs.Stack.{Range, range, link, chained, Lies, none, some, Stacked, put_at}

pub length-flat : (rs : List Rec) → length (flat rs) ≡ length rs * 5
length-flat [] = refl
length-flat (rec k s l f c ∷ rs) = let h = length-flat rs in omega arith

flat_append : (rs ss : List Rec) → flat (rs ++ ss) ≡ flat rs ++ flat ss
flat_append [] ss = refl
flat_append (rec k s l f c ∷ rs) ss = ap (λ (z : List ℕ). k ∷ s ∷ l ∷ f ∷ c ∷ z) (flat_append rs ss)

pub length-laid : (rs : List Rec) (m : ℕ) → length rs * 5 ≤ m → length (laid_out rs m) ≡ m
unfolding laid_out
length-laid rs m h = simp (length-append, length-flat, length-replicate) (omega arith)

pub length-chained : (is a : List ℕ) → length (chained is a) ≡ length a
unfolding chained
length-chained [] a = refl
length-chained (i ∷ is) a = simp length-set (length-chained is a)

set_past : (xs ys : List ℕ) (j v n : ℕ) → n ≡ length xs + j → set (xs ++ ys) n v ≡ xs ++ set ys j v
set_past [] ys j v n e = let z : n ≡ j = omega arith in rw z refl
set_past (x ∷ xs) ys j v n e = let z : n ≡ suc (length xs + j) = omega arith in rw z (ap (λ (z : List ℕ). x ∷ z) (set_past xs ys j v (length xs + j) refl))

-- words of a record, in the area
laid-get : (rs : List Rec) (m k : ℕ) → k < length rs * 5 → get_or (laid_out rs m) k 0 ≡ get_or (flat rs) k 0
unfolding laid_out
laid-get rs m k h = get_or-append (flat rs) (replicate (m - length rs * 5) 0) 0 k (omega (arith, length-flat rs))

flat-get : (rs : List Rec) (r : Rec) (k : ℕ) → k < length rs * 5 → get_or (flat (rs ++ (r ∷ []))) k 0 ≡ get_or (flat rs) k 0
flat-get rs r k h = rw flat_append (get_or-append (flat rs) (flat (r ∷ [])) 0 k (omega (arith, length-flat rs)))

module _ {size : ℕ} {rs : List Rec} where
  -- a store at or behind record n doesn't meet the chain below n, nor does a read there
  chained-set : {n : ℕ} {is : List ℕ} {ns : List Range} → Lies size rs n is ns → (a : List ℕ) (k v : ℕ) → n * 5 ≤ k → chained is (set a k v) ≡ set (chained is a) k v
  unfolding chained
  chained-set none a k v h = refl
  chained-set (some {i = i} {is = is} below z p q r rest) a k v h =
      ap (λ (x : List ℕ). set x (i * 5) (link is)) (chained-set rest a k v (omega arith)) ∙ set_comm (chained is a) k (i * 5) v (link is) (λ e. omega arith)

  chained-get : {n : ℕ} {is : List ℕ} {ns : List Range} → Lies size rs n is ns → (a : List ℕ) (k : ℕ) → n * 5 ≤ k → get_or (chained is a) k 0 ≡ get_or a k 0
  unfolding chained
  chained-get none a k h = refl
  chained-get (some {i = i} {is = is} below z p q r rest) a k h =
      get_or-set_other (chained is a) (i * 5) k (link is) 0 (λ e. omega arith) ∙ chained-get rest a k (omega arith)

  -- another record behind leaves the names as they are
  lies_more : (r : Rec) {n : ℕ} {is : List ℕ} {ns : List Range} → Lies size rs n is ns → n ≤ length rs → (m : ℕ) → n ≤ m → Lies size (rs ++ (r ∷ [])) m is ns
  lies_more r none h m g = none
  lies_more r (some {i = i} below z p q w rest) h m g =
      some {n = m} {i = i} (omega arith) (flat-get rs r (i * 5) (omega arith) ∙ z)
      (flat-get rs r (i * 5 + 1) (omega arith) ∙ p)
      (flat-get rs r (i * 5 + 2) (omega arith) ∙ q)
      w
      (lies_more r rest (omega arith) i (omega arith))

  lies-later : {n m : ℕ} {is : List ℕ} {ns : List Range} → Lies size rs n is ns → n ≤ m → Lies size rs m is ns
  lies-later none h = none
  lies-later {m = m} (some {i = i} below z p q w rest) h = some {n = m} {i = i} (omega arith) z p q w rest

  chained-put : {n : ℕ} {is : List ℕ} {ns : List Range} → Lies size rs n is ns → (a : List ℕ) (k s l f c : ℕ) → chained is (put_at a n k s l f c) ≡ put_at (chained is a) n k s l f c
  unfolding put_at
  chained-put {n} {is} lies a k s l f c =
      chained-set lies _ (n * 5) k (omega arith) ∙ ap (λ (x : List ℕ). set x (n * 5) k)
      (chained-set lies _ (n * 5 + 4) c (omega arith) ∙ ap (λ (x : List ℕ). set x (n * 5 + 4) c)
      (chained-set lies _ (n * 5 + 3) f (omega arith) ∙ ap (λ (x : List ℕ). set x (n * 5 + 3) f)
      (chained-set lies _ (n * 5 + 2) l (omega arith) ∙ ap (λ (x : List ℕ). set x (n * 5 + 2) l)
      (chained-set lies a (n * 5 + 1) s (omega arith)))))

-- a record stored behind the others
laid-put : (rs : List Rec) (m k s l f c : ℕ) → length rs * 5 + 5 ≤ m → put_at (laid_out rs m) (length rs) k s l f c ≡ laid_out (rs ++ (rec k s l f c ∷ [])) m
unfolding put_at laid_out
laid-put rs m k s l f c h =
    let e : m - length rs * 5 ≡ suc (suc (suc (suc (suc (m - (length rs * 5 + 5)))))) = omega arith in
    let g = length-flat rs in
    let d : length (rs ++ (rec k s l f c ∷ [])) * 5 ≡ length rs * 5 + 5 = omega (arith, length-append rs (rec k s l f c ∷ [])) in
    rw (e, d, flat_append) (
    ap (λ (x : List ℕ). set (set (set (set x (length rs * 5 + 2) l) (length rs * 5 + 3) f) (length rs * 5 + 4) c) (length rs * 5) k) (set_past (flat rs) _ 1 s (length rs * 5 + 1) (omega arith))
    ∙ ap (λ (x : List ℕ). set (set (set x (length rs * 5 + 3) f) (length rs * 5 + 4) c) (length rs * 5) k) (set_past (flat rs) _ 2 l (length rs * 5 + 2) (omega arith))
    ∙ ap (λ (x : List ℕ). set (set x (length rs * 5 + 4) c) (length rs * 5) k) (set_past (flat rs) _ 3 f (length rs * 5 + 3) (omega arith))
    ∙ ap (λ (x : List ℕ). set x (length rs * 5) k) (set_past (flat rs) _ 4 c (length rs * 5 + 4) (omega arith))
    ∙ set_past (flat rs) _ 0 k (length rs * 5) (omega arith)
    ∙ sym (append_assoc (flat rs) (k ∷ s ∷ l ∷ f ∷ c ∷ []) (replicate (m - (length rs * 5 + 5)) 0)))

pub length-put : (a : List ℕ) (n k s l f c : ℕ) → length (put_at a n k s l f c) ≡ length a
unfolding put_at
length-put a n k s l f c = simp length-set

-- the kind word is set last
put-kind : (a : List ℕ) (n k v s l f c : ℕ) → put_at a n v s l f c ≡ set (put_at a n k s l f c) (n * 5) v
unfolding put_at
put-kind a n k v s l f c = sym (set-set (set (set (set (set a (n * 5 + 1) s) (n * 5 + 2) l) (n * 5 + 3) f) (n * 5 + 4) c) (n * 5) k v)

module _ {size : ℕ} {rs : List Rec} {ns : List Range} {top : ℕ} {area : List ℕ} (st : Stacked size rs ns top area) where
  -- OTHER RECORDS: one stored behind the others leaves the chain alone
  pub append : (k s l f c : ℕ) → length rs * 5 + 5 ≤ length area → Stacked size (rs ++ (rec k s l f c ∷ [])) ns top (put_at area (length rs) k s l f c)
  append k s l f c h = record {
    opens = st.opens;
    lies = lies_more (rec k s l f c) st.lies (omega arith) _ (omega (arith, length-append rs (rec k s l f c ∷ [])));
    points = st.points;
    fits = rw (length-put area (length rs) k s l f c) (omega (arith, length-append rs (rec k s l f c ∷ [])));
    holds = rw (length-put area (length rs) k s l f c) (ap (λ (x : List ℕ). put_at x (length rs) k s l f c) st.holds ∙ sym (chained-put st.lies (laid_out rs (length area)) k s l f c) ∙ ap (chained st.opens) (laid-put rs (length area) k s l f c h));
  }

  -- PUSH: a Start stored with `top` as its kind word
  pub push : (s l f c : ℕ) → length rs * 5 + 5 ≤ length area → s + l ≤ size → Stacked size (rs ++ (rec 0 s l f c ∷ [])) (range s l ∷ ns) (length rs + 1) (put_at area (length rs) top s l f c)
  unfolding chained append
  push s l f c h w =
      let o = append 0 s l f c h in
      let new = lies_more (rec 0 s l f c) st.lies (omega arith) (length rs) (omega arith) in
      let n : length (rs ++ (rec 0 s l f c ∷ [])) ≡ length rs + 1 = length-append rs (rec 0 s l f c ∷ []) in
      record {
        opens = length rs ∷ st.opens;
        lies = some {n = length (rs ++ (rec 0 s l f c ∷ []))} {i = length rs} (omega arith) (word 0 0 _ (omega arith) refl) (word 1 s _ (omega arith) refl) (word 2 l _ (omega arith) refl) w new;
        points = refl;
        fits = rw (length-put area (length rs) top s l f c) (rw (length-put area (length rs) 0 s l f c) at o.fits);
        holds = rw (length-put area (length rs) top s l f c)
            (put-kind area (length rs) 0 top s l f c
            ∙ ap (λ (x : List ℕ). set x (length rs * 5) top) (rw (length-put area (length rs) 0 s l f c) at o.holds)
            ∙ ap (set (chained st.opens (laid_out (rs ++ (rec 0 s l f c ∷ [])) (length area))) (length rs * 5)) st.points);
      }
    where
      word : (j v k : ℕ) → k ≡ length rs * 5 + j → get_or (flat (rec 0 s l f c ∷ [])) j 0 ≡ v → get_or (flat (rs ++ (rec 0 s l f c ∷ []))) k 0 ≡ v
      word j v k n e = rw (n, flat_append, ← length-flat rs) (get_or-append-add (flat rs) (flat (rec 0 s l f c ∷ [])) j 0 ∙ e)

  -- NOTHING OPEN: the area is the records, and zeros
  pub none_open : ns ≡ [] → (top ≡ 0) × (area ≡ laid_out rs (length area))
  unfolding chained
  none_open e = go st.opens ns st.lies e st.points st.holds
    where
      go : (is : List ℕ) (ms : List Range) → Lies size rs (length rs) is ms → ms ≡ [] → top ≡ link is → area ≡ chained is (laid_out rs (length area)) → (top ≡ 0) × (area ≡ laid_out rs (length area))
      go [] ms none e p h = (p, h)
      go (i ∷ is) [] x5 e p h = elim x5 [ ]
      go (i ∷ is) (m ∷ ms) (some a b x y z r) e p h = let z : ◌≡◌ {A = ℕ} 0 1 = cc in absurd (omega arith)

-- what is read of the innermost open element, and what is left when it is closed
pub record Popped (size : ℕ) (rs : List Rec) (s l : ℕ) (ns : List Range) (top : ℕ) (area : List ℕ) : Type 0 where
  pub positive : 0 < top
  pub within : top ≤ length rs
  pub start : get_or area ((top - 1) * 5 + 1) 0 ≡ s
  pub long : get_or area ((top - 1) * 5 + 2) 0 ≡ l
  pub inside : s + l ≤ size
  -- POP
  pub rest : Stacked size rs ns (get_or area ((top - 1) * 5) 0) (set area ((top - 1) * 5) 0)

module _ (size : ℕ) (rs : List Rec) (s l : ℕ) (ns : List Range) (top : ℕ) (area : List ℕ) (i : ℕ) (is : List ℕ) (below : i < length rs) (z : get_or (flat rs) (i * 5) 0 ≡ 0) (p : get_or (flat rs) (i * 5 + 1) 0 ≡ s) (q : get_or (flat rs) (i * 5 + 2) 0 ≡ l) (w : s + l ≤ size) (rest : Lies size rs i is ns) (t : top ≡ i + 1) (fits : length rs * 5 ≤ length area) (h : area ≡ set (chained is (laid_out rs (length area))) (i * 5) (link is)) where
  at : top - 1 ≡ i
  at = omega arith

  other : (k : ℕ) → i * 5 < k → k < i * 5 + 5 → get_or area k 0 ≡ get_or (flat rs) k 0
  other k g f = ap (λ (x : List ℕ). get_or x k 0) h ∙ get_or-set_other (chained is (laid_out rs (length area))) (i * 5) k (link is) 0 (λ e. omega arith) ∙ chained-get rest (laid_out rs (length area)) k (omega arith) ∙ laid-get rs (length area) k (omega arith)

  back : set (laid_out rs (length area)) (i * 5) 0 ≡ laid_out rs (length area)
  back = ap (set (laid_out rs (length area)) (i * 5)) (sym (laid-get rs (length area) (i * 5) (omega arith) ∙ z)) ∙ set-get_or (laid_out rs (length area)) (i * 5) 0

  kind : get_or area (i * 5) 0 ≡ link is
  kind = ap (λ (x : List ℕ). get_or x (i * 5) 0) h ∙ get_or-set_same (chained is (laid_out rs (length area))) (i * 5) (link is) 0 (rw (length-chained, length-laid rs (length area) fits) (omega arith))

  left : set area (i * 5) 0 ≡ chained is (laid_out rs (length area))
  left = ap (λ (x : List ℕ). set x (i * 5) 0) h ∙ set-set (chained is (laid_out rs (length area))) (i * 5) (link is) 0 ∙ sym (chained-set rest (laid_out rs (length area)) (i * 5) 0 (omega arith)) ∙ ap (chained is) back

  rests : Stacked size rs ns (get_or area (i * 5) 0) (set area (i * 5) 0)
  rests = record {
    opens = is;
    lies = lies-later rest (omega arith);
    points = kind;
    fits = simp length-set fits;
    holds = simp length-set left;
  }

  popped : Popped size rs s l ns top area
  popped = record {
    positive = omega arith;
    within = omega arith;
    start = rw at (other (i * 5 + 1) (omega arith) (omega arith) ∙ p);
    long = rw at (other (i * 5 + 2) (omega arith) (omega arith) ∙ q);
    inside = w;
    rest = rw at rests;
  }

-- START: an area of zeros
pub nothing : (size m : ℕ) → Stacked size [] [] 0 (replicate m 0)
unfolding chained laid_out
nothing size m = record {
  opens = [];
  lies = none;
  points = refl;
  fits = omega arith;
  holds = let e : length (replicate {A = ℕ} m 0) - 0 ≡ m = omega (arith, length-replicate {A = ℕ} m 0) in rw e refl;
}

pub pop : {size : ℕ} {rs : List Rec} {s l : ℕ} {ns : List Range} {top : ℕ} {area : List ℕ} → Stacked size rs (range s l ∷ ns) top area → Popped size rs s l ns top area
unfolding chained
pop {size} {rs} {s} {l} {ns} {top} {area} st = go st.opens st.lies st.points st.fits st.holds
  where
    go : (js : List ℕ) → Lies size rs (length rs) js (range s l ∷ ns) → top ≡ link js → length rs * 5 ≤ length area → area ≡ chained js (laid_out rs (length area)) → Popped size rs s l ns top area
    go [] x4 t fits h = elim x4 [ ]
    go (i ∷ is) (some below z p q w rest) t fits h = popped size rs s l ns top area i is below z p q w rest t fits h

-- the innermost open element is a record
pub top_below : {size : ℕ} {rs : List Rec} {ns : List Range} {top : ℕ} {area : List ℕ} → Stacked size rs ns top area → top ≤ length rs
top_below {size} {rs} {ns} {top} {area} st = go st.opens ns st.lies st.points
  where
    go : (is : List ℕ) (ms : List Range) → Lies size rs (length rs) is ms → top ≡ link is → top ≤ length rs
    go [] ms none p = omega arith
    go (i ∷ is) [] x3 p = elim x3 [ ]
    go (i ∷ is) (m ∷ ms) (some below z x y w rest) p = omega arith
