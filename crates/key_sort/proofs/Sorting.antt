-- Halves in order, and the whole. Assumes nothing.
use Prim.Native.Nat.{ℕ, ◌+◌, ◌-◌, ◌≤◌, ◌<◌}
use mathlib.Core.Path.{◌≡◌, refl, sym, ap, subst, ◌∙◌}
use mathlib.Core.List.{List, [], ◌∷◌, ◌++◌}
use native.Mathlib.Omega.{arith}
use lib.ListN.{length, take, drop, set, length-append, length-drop}
use borrow.Rule.Slice.PartMut.{put_mid}
use Rattle.clean_order.proofs.of_area.Parts.{rest_part, rest_back}
use lib.Seq.{length-take-le, take_at, drop_at, take-append-add}
use mathlib.Core.Bool.{Bool}
use Rattle.clean_order.specs.inside.CleanOrder.{key_for, ComesBy, comes_by}
use Rattle.clean_order.proofs.of_key_order.Ordering.{comes-true, comes-false, comes-trans}
use Rattle.key_sort.specs.inside.Arranged.{Before, Ordered, count, numbers, Arranged}
use Rattle.key_sort.specs.inside.Merged.{merged, merged_to}
use Rattle.key_sort.specs.inside.Numbers.{numbers_in}
use Rattle.key_sort.proofs.Numbers.{length-numbers, numbers-front}
use Rattle.key_sort.proofs.Merging.{length_merged, count-merged, ordered-merged}
use Rattle.key_sort.proofs.Counting.{count-numbers}

pub arranged-none : (le : ℕ → ℕ → Type 0) (first n : ℕ) (w : List ℕ) → n ≡ 0 → Arranged le first n (take n w)
unfolding Ordered count numbers
arranged-none le first n w e = subst (λ (m : ℕ). Arranged le first m (take m w)) (sym e) (none le first)
  where
    none : (le : ℕ → ℕ → Type 0) (first : ℕ) → Arranged le first 0 []
    none le first = record { ordered = tt; all = λ x. refl; size = refl }

one-put : (le : ℕ → ℕ → Type 0) (first n : ℕ) (w : List ℕ) → n ≡ 1 → 0 < length w → Arranged le first n (take n (set w 0 first))
unfolding Before Ordered count numbers
one-put le first n [] e h = absurd (omega arith)
one-put le first n (x ∷ xs) e h = subst (λ (m : ℕ). Arranged le first m (take m (first ∷ xs))) (sym e) one
  where
    one : Arranged le first 1 (first ∷ [])
    one = record { ordered = (tt, tt); all = λ x. refl; size = refl }

pub arranged-one : (le : ℕ → ℕ → Type 0) (first n : ℕ) (w : List ℕ) {w' : List ℕ} → w' ≡ set w 0 first → n ≡ 1 → 0 < length w → Arranged le first n (take n w')
arranged-one le first n w q e h = subst (λ (l : List ℕ). Arranged le first n (take n l)) (sym q) (one-put le first n w e h)

module _ (clean : Bool) (attributes source : List ℕ) where
  arranged-two : {first h rest n : ℕ} {xs ys : List ℕ} → Arranged (ComesBy clean attributes source) first h xs → Arranged (ComesBy clean attributes source) (first + h) rest ys → h + rest ≡ n
      → Arranged (ComesBy clean attributes source) first n (merged (comes_by clean attributes source) n xs ys)
  arranged-two {first} {h} {rest} {n} {xs} {ys} a b e =
      let f = key_for clean attributes source in
      let s : length xs + length ys ≡ n = omega (arith, a.size, b.size) in record {
        ordered = ordered-merged (comes_by clean attributes source) (ComesBy clean attributes source) (λ x y. comes-true (key_for clean attributes source x) (key_for clean attributes source y) x y)
            (λ x y. comes-false (key_for clean attributes source x) (key_for clean attributes source y) x y)
            (λ x y z. comes-trans (key_for clean attributes source x) (key_for clean attributes source y) (key_for clean attributes source z) x y z) n xs ys s a.ordered b.ordered;
        all = λ x. count-merged (comes_by clean attributes source) x n xs ys s ∙ ap (λ (m : ℕ). m + count x ys) (a.all x) ∙ ap (λ (m : ℕ). count x (numbers first h) + m) (b.all x)
            ∙ sym (count-numbers x first h rest) ∙ ap (λ (m : ℕ). count x (numbers first m)) e;
        size = length_merged (comes_by clean attributes source) n xs ys;
      }

  -- the halves, sorted one behind the other, are merged behind them and moved down
  pub arranged-whole : (first h n : ℕ) (w₁ p w₂ w₃ w₄ : List ℕ) → h ≤ n → h ≤ length w₁ → Arranged (ComesBy clean attributes source) first h (take h w₁)
      → Arranged (ComesBy clean attributes source) (first + h) (n - h) (take (n - h) p) → w₂ ≡ take h w₁ ++ p → take n (drop n w₃) ≡ merged_to (comes_by clean attributes source) h n w₂
      → take n w₄ ≡ take n (drop n w₃) → Arranged (ComesBy clean attributes source) first n (take n w₄)
  arranged-whole first h n w₁ p w₂ w₃ w₄ l m a b e f g =
      let s : length (take h w₁) ≡ h = length-take-le h w₁ m in
      let z : h + (n - h) ≡ n = omega arith in
      let t : take n w₂ ≡ take h w₁ ++ take (n - h) p =
      ap (take n) e ∙ ap (λ (k : ℕ). take k (take h w₁ ++ p)) (sym z ∙ ap (λ (k : ℕ). k + (n - h)) (sym s)) ∙ take-append-add (take h w₁) p (n - h) in
      let x : take h w₂ ≡ take h w₁ = ap (take h) e ∙ take_at (take h w₁) p h s in
      let y : drop h (take n w₂) ≡ take (n - h) p = ap (drop h) t ∙ drop_at (take h w₁) (take (n - h) p) h s in
      let q : take n w₄ ≡ merged (comes_by clean attributes source) n (take h w₁) (take (n - h) p) =
      g ∙ f ∙ ap (λ (k : List ℕ). merged (comes_by clean attributes source) n k (drop h (take n w₂))) x ∙ ap (λ (k : List ℕ). merged (comes_by clean attributes source) n (take h w₁) k) y in
      subst (λ (k : List ℕ). Arranged (ComesBy clean attributes source) first n k) (sym q) (arranged-two a b z)

-- the bytes that come back from a sort of the part from h on
pub whole-size : (w₀ w₁ p : List ℕ) (h : ℕ) → h ≤ length w₀ → length w₁ ≡ length w₀ → length p ≡ length (take (length w₁ - h) (drop h w₁)) → length (put_mid h (length w₁ - h) w₁ p) ≡ length w₀
whole-size w₀ w₁ p h l e q =
    let s = length-take-le h w₁ (omega arith) in
    let a = length-append (take h w₁) p in
    let b = ap length (rest_part w₁ h) in
    let d = length-drop h w₁ in
    ap length (rest_back w₁ h p) ∙ omega arith

pub part-size : (b₀ b₁ : List ℕ) (h n : ℕ) → h ≤ n → n + n ≤ length (numbers_in b₀) → length b₁ ≡ length b₀ → n - h + (n - h) ≤ length (numbers_in (take (length b₁ - (h + h)) (drop (h + h) b₁)))
part-size b₀ b₁ h n l r e =
    let b = ap length (rest_part b₁ (h + h)) in
    let d = length-drop (h + h) b₁ in
    let s = length-numbers (take (length b₁ - (h + h)) (drop (h + h) b₁)) in
    let t = length-numbers b₀ in
    omega arith

-- their numbers
pub whole_numbers : (b₁ p : List ℕ) (h : ℕ) → h ≤ length (numbers_in b₁) → numbers_in (put_mid (h + h) (length b₁ - (h + h)) b₁ p) ≡ take h (numbers_in b₁) ++ numbers_in p
whole_numbers b₁ p h l = ap numbers_in (rest_back b₁ (h + h) p) ∙ numbers-front b₁ p h l
