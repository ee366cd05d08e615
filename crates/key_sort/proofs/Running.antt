-- Two runs of one list become one behind them, number by number. Assumes nothing.
use Prim.Native.Nat.{ℕ, suc, ◌+◌, ◌-◌, ◌≤◌, ◌<◌}
use mathlib.Core.Path.{◌≡◌, refl, sym, ap, subst, ◌∙◌}
use mathlib.Core.List.{List, [], ◌∷◌, ◌++◌, append_assoc, append-nil}
use mathlib.Core.Bool.{Bool, true, false}
use native.Mathlib.Omega.{arith}
use native.Mathlib.Numerals.{add-one}
use lib.ListN.{length, get_or, take, drop, set, length-drop, length-set, drop_of_length-le}
use lib.Seq.{length-take-le, take-suc-set, take-set-le, get_or-take, take-take, take-add, drop_at}
use Rattle.clean_order.proofs.of_area.Lists.{drop-next}
use Rattle.key_sort.specs.inside.Merged.{takes_first, merged, merged_to}

-- a run from i to before h: its first, and none
pub run-next : (w : List ℕ) (i h : ℕ) → i < h → h ≤ length w → drop i (take h w) ≡ get_or w i 0 ∷ drop (i + 1) (take h w)
run-next w i h p q =
    let l = length-take-le h w q in
    let o : i < length (take h w) = omega arith in
    drop-next (take h w) i o ∙ ap (λ (x : ℕ). x ∷ drop (i + 1) (take h w)) (get_or-take h w i 0 p)

pub run_none : (w : List ℕ) (i h : ℕ) → h ≤ i → h ≤ length w → drop i (take h w) ≡ []
run_none w i h p q = let l = length-take-le h w q in let o : length (take h w) ≤ i = omega arith in drop_of_length-le (take h w) {i = i} o

-- which run has the next
module _ (test : ℕ → ℕ → Bool) (w : List ℕ) (i h j n : ℕ) (fits : n ≤ length w) (mid : h ≤ j) (high : j ≤ n) where
  pub first-none : i ≡ h → false ≡ takes_first test (drop i (take h w)) (drop j (take n w))
  unfolding takes_first
  first-none e = rw (run_none w i h (omega arith) (omega arith)) refl

  pub second_none : i ≤ h → (i ≡ h → ⊥) → j ≡ n → true ≡ takes_first test (drop i (take h w)) (drop j (take n w))
  unfolding takes_first
  second_none p o e = let l : i < h = omega (arith, o) in rw (run-next w i h l (omega arith), run_none w j n (omega arith) fits) refl

  pub both_some : i ≤ h → (i ≡ h → ⊥) → (j ≡ n → ⊥) → test (get_or w i 0) (get_or w j 0) ≡ takes_first test (drop i (take h w)) (drop j (take n w))
  unfolding takes_first
  both_some p o q =
      let l : i < h = omega (arith, o) in
      let m : j < n = omega (arith, q) in
      rw (run-next w i h l (omega arith), run-next w j n m fits) refl

takes-true : (test : ℕ → ℕ → Bool) (xs ys : List ℕ) → takes_first test xs ys ≡ true → 0 < length xs
unfolding takes_first
takes-true test [] ys e = let z : ◌≡◌ {A = ℕ} 0 1 = cc in absurd (omega arith)
takes-true test (x ∷ xs) ys e = omega arith

takes-false : (test : ℕ → ℕ → Bool) (xs ys : List ℕ) → takes_first test xs ys ≡ false → 0 < length xs + length ys → 0 < length ys
unfolding takes_first
takes-false test [] ys e h = omega arith
takes-false test (x ∷ xs) [] e h = let z : ◌≡◌ {A = ℕ} 0 1 = cc in absurd (omega arith)
takes-false test (x ∷ xs) (y ∷ ys) e h = omega arith

merged-first : (test : ℕ → ℕ → Bool) (m x : ℕ) (xs ys : List ℕ) → takes_first test (x ∷ xs) ys ≡ true → merged test (suc m) (x ∷ xs) ys ≡ x ∷ merged test m xs ys
unfolding merged
merged-first test m x xs ys e = rw e refl

merged-second : (test : ℕ → ℕ → Bool) (m : ℕ) (xs : List ℕ) (y : ℕ) (ys : List ℕ) → takes_first test xs (y ∷ ys) ≡ false → merged test (suc m) xs (y ∷ ys) ≡ y ∷ merged test m xs ys
unfolding merged
merged-second test m xs y ys e = rw e refl

-- the first i of one run and the first of the other, up to number j, stand in order from n to before k
pub record Running (test : ℕ → ℕ → Bool) (h n : ℕ) (w₀ w : List ℕ) (i j k : ℕ) : Type 0 where
  pub low : i ≤ h
  pub mid : h ≤ j
  pub high : j ≤ n
  pub at : k + h ≡ n + i + j
  pub room : n + n ≤ length w₀
  pub size : length w ≡ length w₀
  pub kept : take n w ≡ take n w₀
  pub front : List ℕ
  pub stands : take k w ≡ take n w₀ ++ front
  pub left : front ++ merged test (n + n - k) (drop i (take h w₀)) (drop j (take n w₀)) ≡ merged_to test h n w₀

pub running-start : (test : ℕ → ℕ → Bool) (h n : ℕ) (w : List ℕ) → h ≤ n → n + n ≤ length w → Running test h n w w 0 h n
running-start test h n w p q =
    let z : n + n - n ≡ n = omega arith in record {
      low = omega arith;
      mid = omega arith;
      high = p;
      at = omega arith;
      room = q;
      size = refl;
      kept = refl;
      front = [];
      stands = sym (append-nil (take n w));
      left = ap (λ (m : ℕ). merged test m (take h w) (drop h (take n w))) z;
    }

module _ {test : ℕ → ℕ → Bool} {h n : ℕ} {w₀ w : List ℕ} {i j k : ℕ} (r : Running test h n w₀ w i j k) where
  same-run : (m : ℕ) → m ≤ n → take m w ≡ take m w₀
  same-run m o = sym (take-take m n w o) ∙ ap (take m) r.kept ∙ take-take m n w₀ o

  same_at : (m : ℕ) → m < n → get_or w m 0 ≡ get_or w₀ m 0
  same_at m o = sym (get_or-take n w m 0 o) ∙ ap (λ (l : List ℕ). get_or l m 0) r.kept ∙ get_or-take n w₀ m 0 o

  low-n : h ≤ n
  low-n = omega (arith, r.mid, r.high)

  module _ {t : Bool} (e : t ≡ takes_first test (drop i (take h w)) (drop j (take n w))) where
    told : {u : Bool} → t ≡ u → takes_first test (drop i (take h w₀)) (drop j (take n w₀)) ≡ u
    told p =
        sym (ap (λ (l : List ℕ). takes_first test (drop i l) (drop j (take n w₀))) (same-run h low-n)) ∙ sym (ap (λ (l : List ℕ). takes_first test (drop i (take h w)) (drop j l)) r.kept) ∙ sym e ∙ p

    long-first : length (drop i (take h w₀)) ≡ h - i
    long-first = let a = length-drop i (take h w₀) in let b = length-take-le h w₀ (omega (arith, r.room, low-n)) in omega arith

    long-second : length (drop j (take n w₀)) ≡ n - j
    long-second = let a = length-drop j (take n w₀) in let b = length-take-le n w₀ (omega (arith, r.room)) in omega arith

    pub some_first : t ≡ true → i < h
    some_first p = let a = takes-true test (drop i (take h w₀)) (drop j (take n w₀)) (told p) in let b = long-first in omega arith

    pub some-second : k < n + n → t ≡ false → j < n
    some-second o p =
        let b = long-first in
        let c = long-second in
        let s : 0 < length (drop i (take h w₀)) + length (drop j (take n w₀)) = omega (arith, r.at, r.low, r.mid, r.high) in
        let a = takes-false test (drop i (take h w₀)) (drop j (take n w₀)) (told p) s in
        omega arith

    advance : (v i' j' : ℕ) → k < n + n → i' ≤ h → h ≤ j' → j' ≤ n → k + 1 + h ≡ n + i' + j'
        → merged test (n + n - k) (drop i (take h w₀)) (drop j (take n w₀)) ≡ v ∷ merged test (n + n - (k + 1)) (drop i' (take h w₀)) (drop j' (take n w₀))
        → Running test h n w₀ (set w k v) i' j' (k + 1)
    advance v i' j' o p q s a m =
        let f : k < length w = omega (arith, r.size, r.room) in
        let g : n ≤ k = omega (arith, r.at, r.mid) in record {
          low = p;
          mid = q;
          high = s;
          at = a;
          room = r.room;
          size = length-set w k v ∙ r.size;
          kept = take-set-le n w k v g ∙ r.kept;
          front = r.front ++ (v ∷ []);
          stands = rw add-one (take-suc-set w k v f ∙ ap (λ (l : List ℕ). l ++ (v ∷ [])) r.stands ∙ append_assoc (take n w₀) r.front (v ∷ []));
          left = append_assoc r.front (v ∷ []) (merged test (n + n - (k + 1)) (drop i' (take h w₀)) (drop j' (take n w₀))) ∙ ap (λ (l : List ℕ). r.front ++ l) (sym m) ∙ r.left;
        }

    pub running-first : k < n + n → t ≡ true → Running test h n w₀ (set w k (get_or w i 0)) (i + 1) j (k + 1)
    running-first o p =
        let l : i < h = some_first p in
        let z : n + n - k ≡ suc (n + n - (k + 1)) = omega arith in
        let c : drop i (take h w₀) ≡ get_or w₀ i 0 ∷ drop (i + 1) (take h w₀) = run-next w₀ i h l (omega (arith, r.room, low-n)) in
        let y = drop j (take n w₀) in
        advance (get_or w i 0) (i + 1) j o (omega arith) r.mid r.high (omega (arith, r.at))
        (ap (λ (m : ℕ). merged test m (drop i (take h w₀)) (drop j (take n w₀))) z ∙ ap (λ (x : List ℕ). merged test (suc (n + n - (k + 1))) x (drop j (take n w₀))) c
        ∙ merged-first test (n + n - (k + 1)) (get_or w₀ i 0) (drop (i + 1) (take h w₀)) (drop j (take n w₀)) (sym (ap (λ (x : List ℕ). takes_first test x (drop j (take n w₀))) c) ∙ told p)
        ∙ ap (λ (x : ℕ). x ∷ merged test (n + n - (k + 1)) (drop (i + 1) (take h w₀)) (drop j (take n w₀))) (sym (same_at i (omega (arith, low-n)))))

    pub running-second : k < n + n → t ≡ false → Running test h n w₀ (set w k (get_or w j 0)) i (j + 1) (k + 1)
    running-second o p =
        let l : j < n = some-second o p in
        let z : n + n - k ≡ suc (n + n - (k + 1)) = omega arith in
        let c : drop j (take n w₀) ≡ get_or w₀ j 0 ∷ drop (j + 1) (take n w₀) = run-next w₀ j n l (omega (arith, r.room)) in
        advance (get_or w j 0) i (j + 1) o r.low (omega (arith, r.mid)) (omega arith) (omega (arith, r.at))
        (ap (λ (m : ℕ). merged test m (drop i (take h w₀)) (drop j (take n w₀))) z ∙ ap (λ (x : List ℕ). merged test (suc (n + n - (k + 1))) (drop i (take h w₀)) x) c
        ∙ merged-second test (n + n - (k + 1)) (drop i (take h w₀)) (get_or w₀ j 0) (drop (j + 1) (take n w₀)) (sym (ap (λ (x : List ℕ). takes_first test (drop i (take h w₀)) x) c) ∙ told p)
        ∙ ap (λ (x : ℕ). x ∷ merged test (n + n - (k + 1)) (drop i (take h w₀)) (drop (j + 1) (take n w₀))) (sym (same_at j l)))

  pub running-done : n + n ≤ k → take n (drop n w) ≡ merged_to test h n w₀
  unfolding merged
  running-done o =
      let e : k ≡ n + n = omega (arith, r.at, r.low, r.high) in
      let z : n + n - k ≡ 0 = omega arith in
      let s : take (n + n) w ≡ take n w₀ ++ r.front = sym (ap (λ (m : ℕ). take m w) e) ∙ r.stands in
      let f : r.front ≡ merged_to test h n w₀ =
      sym (append-nil r.front) ∙ sym (ap (λ (m : ℕ). r.front ++ merged test m (drop i (take h w₀)) (drop j (take n w₀))) z) ∙ r.left in
      let l : length (take n w) ≡ n = length-take-le n w (omega (arith, r.room, r.size)) in
      let l₀ : length (take n w₀) ≡ n = length-take-le n w₀ (omega (arith, r.room)) in
      sym (drop_at (take n w) (take n (drop n w)) n l) ∙ ap (drop n) (sym (take-add n n w) ∙ s) ∙ drop_at (take n w₀) r.front n l₀ ∙ f

-- a number was put that is what was to be put
pub running-put : {test : ℕ → ℕ → Bool} {h n : ℕ} {w₀ w' : List ℕ} {i j k v x : ℕ} (w : List ℕ) (at : ℕ) → w' ≡ set w at v → v ≡ x → Running test h n w₀ (set w at x) i j k
    → Running test h n w₀ w' i j k
running-put {test} {h} {n} {w₀} {i = i} {j} {k} w at e q r = subst (λ (l : List ℕ). Running test h n w₀ l i j k) (sym (e ∙ ap (set w at) q)) r
