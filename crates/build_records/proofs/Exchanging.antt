-- Two records are exchanged word by word. Assumes nothing.
use Prim.Native.Nat.{ℕ, suc, ◌+◌, ◌*◌, ◌≤◌, ◌<◌}
use mathlib.Core.Path.{◌≡◌, refl, sym, ap, ◌∙◌}
use mathlib.Core.List.{List, [], ◌∷◌, ◌++◌, append_assoc, append-nil}
use native.Mathlib.Omega.{arith}
use native.Mathlib.Numerals.{unary_clauses}
use lib.ListN.{length, get_or, set, take, drop, length-append, length-drop, take-append-drop}
use lib.Seq.{length-take-le, take_at, drop_at, get_or_at, set_at, drop-drop}
use Rattle.std.specs.Prelude.{swap}
use Rattle.std.proofs.lemmas.Grind.{get_or_default_zero}
use Rattle.build_draft.specs.Parts.{exchanged}

-- j words of each record are exchanged: behind `head`, `b₁` stands where `a₁` was, and the other way round; old is the area as it was, new
-- as it is
pub record Exchanging (old new : List ℕ) (n j : ℕ) : Type 0 where
  pub head : List ℕ
  pub a₁ : List ℕ
  pub a₂ : List ℕ
  pub b₁ : List ℕ
  pub b₂ : List ℕ
  pub tail : List ℕ
  pub from : length head ≡ n
  pub front : length a₁ ≡ j
  pub front' : length b₁ ≡ j
  pub rest : length a₂ + j ≡ 32
  pub rest' : length b₂ + j ≡ 32
  pub was : old ≡ head ++ ((a₁ ++ a₂) ++ ((b₁ ++ b₂) ++ tail))
  pub is : new ≡ head ++ (b₁ ++ (a₂ ++ (a₁ ++ (b₂ ++ tail))))

-- no word yet
pub exchanging-start : (l : List ℕ) (n : ℕ) → n + 64 ≤ length l → Exchanging l l n 0
exchanging-start l n h =
    let r = drop n l in
    let d = length-drop n l in
    let e : l ≡ take n l ++ (take 32 r ++ (take 32 (drop 32 r) ++ drop 32 (drop 32 r))) =
    sym (take-append-drop n l) ∙ ap (λ (x : List ℕ). take n l ++ x) (sym (take-append-drop 32 r) ∙ ap (λ (x : List ℕ). take 32 r ++ x) (sym (take-append-drop 32 (drop 32 r)))) in
    record {
      head = take n l;
      a₁ = [];
      a₂ = take 32 r;
      b₁ = [];
      b₂ = take 32 (drop 32 r);
      tail = drop 32 (drop 32 r);
      from = length-take-le n l (omega arith);
      front = refl;
      front' = refl;
      rest = simp unary_clauses (length-take-le 32 r (omega arith));
      rest' = simp unary_clauses (length-take-le 32 (drop 32 r) (let f = length-drop 32 r in omega arith));
      was = e;
      is = e;
    }

-- the area keeps its length
pub exchanging-same : {old new : List ℕ} {n j : ℕ} → Exchanging old new n j → length new ≡ length old
exchanging-same x = ap length x.is ∙ simp length-append (omega arith) ∙ sym (ap length x.was)

-- the next word of each, x in front and y behind
module _ (head a₁ a₂ b₁ b₂ tail : List ℕ) (x y : ℕ) where
  abbrev words : ℕ → ℕ → List ℕ
  words v w = head ++ (b₁ ++ (v ∷ (a₂ ++ (a₁ ++ (w ∷ (b₂ ++ tail))))))

  module _ (n j : ℕ) (from : length head ≡ n) (front : length a₁ ≡ j) (front' : length b₁ ≡ j) (rest : suc (length a₂) + j ≡ 32) where
    at_front : length (head ++ b₁) ≡ n + j
    at_front = simp length-append (omega arith)

    at_back : (v : ℕ) → length (head ++ (b₁ ++ (v ∷ (a₂ ++ a₁)))) ≡ n + j + 32
    at_back v = simp (length-append, unary_clauses) (omega arith)

    by_front : (v w : ℕ) → words v w ≡ (head ++ b₁) ++ (v ∷ (a₂ ++ (a₁ ++ (w ∷ (b₂ ++ tail)))))
    by_front v w = sym (append_assoc head b₁ (v ∷ (a₂ ++ (a₁ ++ (w ∷ (b₂ ++ tail))))))

    by-back : (v w : ℕ) → words v w ≡ (head ++ (b₁ ++ (v ∷ (a₂ ++ a₁)))) ++ (w ∷ (b₂ ++ tail))
    by-back v w = simp append_assoc

    front_read : get_or (words x y) (n + j) 0 ≡ x
    front_read = ap (λ (l : List ℕ). get_or l (n + j) 0) (by_front x y) ∙ get_or_at (head ++ b₁) x (a₂ ++ (a₁ ++ (y ∷ (b₂ ++ tail)))) 0 (n + j) at_front

    back_read : get_or (words x y) (n + j + 32) 0 ≡ y
    back_read = ap (λ (l : List ℕ). get_or l (n + j + 32) 0) (by-back x y) ∙ get_or_at (head ++ (b₁ ++ (x ∷ (a₂ ++ a₁)))) y (b₂ ++ tail) 0 (n + j + 32) (at_back x)

    front-put : (v : ℕ) → set (words x y) (n + j) v ≡ words v y
    front-put v = ap (λ (l : List ℕ). set l (n + j) v) (by_front x y) ∙ set_at (head ++ b₁) x (a₂ ++ (a₁ ++ (y ∷ (b₂ ++ tail)))) v (n + j) at_front ∙ sym (by_front v y)

    back-put : (v w : ℕ) → set (words v y) (n + j + 32) w ≡ words v w
    back-put v w = ap (λ (l : List ℕ). set l (n + j + 32) w) (by-back v y) ∙ set_at (head ++ (b₁ ++ (v ∷ (a₂ ++ a₁)))) y (b₂ ++ tail) w (n + j + 32) (at_back v) ∙ sym (by-back v w)

    both-put : {l : List ℕ} → l ≡ words x y → set (set l (n + j) (get_or l (n + j + 32) 0)) (n + j + 32) (get_or l (n + j) 0) ≡ words y x
    both-put e = rw (e, front_read, back_read, front-put y) (back-put y x)

  -- and they count among the exchanged
  swapped : words y x ≡ head ++ ((b₁ ++ (y ∷ [])) ++ (a₂ ++ ((a₁ ++ (x ∷ [])) ++ (b₂ ++ tail))))
  swapped = simp append_assoc

-- two records behind some words
halves : (head a b tail : List ℕ) (i : ℕ) → length head ≡ i * 32 → length a ≡ 32 → length b ≡ 32 → exchanged i (head ++ (a ++ (b ++ tail))) ≡ head ++ (b ++ (a ++ tail))
halves head a b tail i h p q =
    let d = drop_at head (a ++ (b ++ tail)) (i * 32) h in
    rw (
      take_at head (a ++ (b ++ tail)) (i * 32) h,
      d,
      take_at a (b ++ tail) 32 p,
      drop_at a (b ++ tail) 32 p,
      take_at b tail 32 q,
      ← drop-drop 32 32 (a ++ (b ++ tail)),
      drop_at a (b ++ tail) 32 p,
      drop_at b tail 32 q,
    ) refl

-- one word more of each
pub exchanging-more : {old new : List ℕ} {n j : ℕ} → Exchanging old new n j → j < 32 → Exchanging old (set (set new (n + j) (get_or new (n + j + 32) 0)) (n + j + 32) (get_or new (n + j) 0)) n (j + 1)
exchanging-more {old} {new} {n} {j} k h = go k.a₂ k.b₂ k.rest k.rest' k.was k.is
  where
    go : (a b : List ℕ) → length a + j ≡ 32 → length b + j ≡ 32 → old ≡ k.head ++ ((k.a₁ ++ a) ++ ((k.b₁ ++ b) ++ k.tail)) → new ≡ k.head ++ (k.b₁ ++ (a ++ (k.a₁ ++ (b ++ k.tail))))
        → Exchanging old (set (set new (n + j) (get_or new (n + j + 32) 0)) (n + j + 32) (get_or new (n + j) 0)) n (j + 1)
    go [] b r r' w i = absurd (omega arith)
    go (x ∷ a) [] r r' w i = absurd (omega arith)
    go (x ∷ a) (y ∷ b) r r' w i = record {
      head = k.head;
      a₁ = k.a₁ ++ (x ∷ []);
      a₂ = a;
      b₁ = k.b₁ ++ (y ∷ []);
      b₂ = b;
      tail = k.tail;
      from = k.from;
      front = length-append k.a₁ (x ∷ []) ∙ ap (λ (m : ℕ). m + 1) k.front;
      front' = length-append k.b₁ (y ∷ []) ∙ ap (λ (m : ℕ). m + 1) k.front';
      rest = omega arith;
      rest' = omega arith;
      was = w ∙ simp append_assoc;
      is = both-put k.head k.a₁ a k.b₁ b k.tail x y n j k.from k.front k.front' r i ∙ swapped k.head k.a₁ a k.b₁ b k.tail x y;
    }

-- all 32
pub exchanging-done : {old new : List ℕ} (i : ℕ) {j : ℕ} → Exchanging old new (i * 32) j → 32 ≤ j → new ≡ exchanged i old
exchanging-done {old} {new} i {j} k h = go k.a₂ k.b₂ k.rest k.rest' k.was k.is
  where
    go : (a b : List ℕ) → length a + j ≡ 32 → length b + j ≡ 32 → old ≡ k.head ++ ((k.a₁ ++ a) ++ ((k.b₁ ++ b) ++ k.tail)) → new ≡ k.head ++ (k.b₁ ++ (a ++ (k.a₁ ++ (b ++ k.tail))))
        → new ≡ exchanged i old
    go (x ∷ a) b r r' w e = absurd (omega arith)
    go [] (y ∷ b) r r' w e = absurd (omega arith)
    go [] [] r r' w e =
        let q : length k.a₁ ≡ 32 = (let p = k.front in omega arith) in
        let q' : length k.b₁ ≡ 32 = (let p = k.front' in omega arith) in
        let u : old ≡ k.head ++ (k.a₁ ++ (k.b₁ ++ k.tail)) = w ∙ simp append-nil in
        e ∙ sym (ap (exchanged i) u ∙ halves k.head k.a₁ k.b₁ k.tail i k.from q q')

-- two words exchanged by the library, whose reads have another default
swap-words : (l : List ℕ) (i j : ℕ) → i < length l → j < length l → swap l i j ≡ set (set l i (get_or l j 0)) j (get_or l i 0)
swap-words [] i j h h' = absurd (omega arith)
swap-words (d ∷ l) i j h h' = rw (get_or_default_zero (d ∷ l) i d h, get_or_default_zero (d ∷ l) j d h') refl

-- one word more of each, by the library
pub exchanging-swap : {old new new' : List ℕ} {n j : ℕ} → Exchanging old new n j → j < 32 → n + 64 ≤ length old → new' ≡ swap new (n + j) (n + j + 32)
    → Exchanging old new' n (j + 1)
exchanging-swap {old} {new} {new'} {n} {j} k h room e =
    let same = exchanging-same k in
    let is = swap-words new (n + j) (n + j + 32) (omega arith) (omega arith) in
    rw (sym (e ∙ is)) at (exchanging-more k h)
