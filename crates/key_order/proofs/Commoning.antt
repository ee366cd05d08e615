-- Two parts are compared from their front, as far as both go. Assumes nothing.
use Prim.Native.Nat.{ℕ, suc, min, ◌+◌, ◌≤◌, ◌<◌}
use mathlib.Core.Path.{◌≡◌, refl, ◌∙◌}
use mathlib.Core.Logic.{◌⊎◌, inl, inr}
use mathlib.Core.List.{List, [], ◌∷◌}
use mathlib.Core.Bool.{Bool, true, false, cond}
use native.Mathlib.Omega.{arith}
use borrow.Author.Tests.{eq-eqb, ne_eqb, leb-true, leb-false}
use lib.Dec.{eqb, leb}
use lib.ListN.{length, drop, get_or, length-drop}
use Rattle.table.proofs.of_area.Lists.{drop-next}
use Rattle.key_order.specs.inside.KeyOrder.{common_length}

-- the first i bytes are equal
pub record Commoning (a b : List ℕ) (n i : ℕ) : Type 0 where
  pub least : n ≡ min (length a) (length b)
  pub fits : i ≤ n
  pub left : common_length a b ≡ i + common_length (drop i a) (drop i b)

none : (x y : List ℕ) → (length x ≡ 0) ⊎ (length y ≡ 0) → common_length x y ≡ 0
unfolding common_length
none [] y h = refl
none (x ∷ xs) [] h = refl
none (x ∷ xs) (y ∷ ys) (inl h) = absurd (omega arith)
none (x ∷ xs) (y ∷ ys) (inr h) = absurd (omega arith)

pub commoning-start : {a b : List ℕ} {n : ℕ} → n ≡ min (length a) (length b) → Commoning a b n 0
commoning-start {a} {b} e = let z : common_length a b ≡ 0 + common_length a b = omega arith in record { least = e; fits = omega arith; left = z }

module _ {a b : List ℕ} {n i : ℕ} (m : Commoning a b n i) where
  next : i < n → common_length a b ≡ i + cond (eqb (get_or a i 0) (get_or b i 0)) (suc (common_length (drop (i + 1) a) (drop (i + 1) b))) 0
  unfolding common_length
  next h =
      let e = m.least in
      let ha : i < length a = omega arith in
      let hb : i < length b = omega arith in
      m.left ∙ rw (drop-next a i ha, drop-next b i hb) refl

  pub commoning-more : i < n → get_or a i 0 ≡ get_or b i 0 → Commoning a b n (i + 1)
  commoning-more h e =
      let z : common_length a b ≡ i + suc (common_length (drop (i + 1) a) (drop (i + 1) b)) = next h ∙ rw (eq-eqb (get_or a i 0) (get_or b i 0) e) refl in
      record { least = m.least; fits = omega arith; left = omega arith }

  pub commoning_unlike : i < n → (get_or a i 0 ≡ get_or b i 0 → ⊥) → i ≡ common_length a b
  commoning_unlike h e =
      let z : common_length a b ≡ i + 0 = next h ∙ rw (ne_eqb (get_or a i 0) (get_or b i 0) e) refl in
      omega arith

  pub commoning-done : n ≤ i → n ≡ common_length a b
  commoning-done h =
      let e = m.least in
      let f = m.fits in
      let la = length-drop i a in
      let lb = length-drop i b in
      let z = none (drop i a) (drop i b) (go (leb (length a) (length b)) refl) in
      omega (arith, m.left)
    where
      go : (t : Bool) → leb (length a) (length b) ≡ t → (length (drop i a) ≡ 0) ⊎ (length (drop i b) ≡ 0)
      go true q = let o = leb-true (length a) (length b) q in let e = m.least in let f = m.fits in let la = length-drop i a in inl (omega arith)
      go false q = let o = leb-false (length a) (length b) q in let e = m.least in let f = m.fits in let lb = length-drop i b in inr (omega arith)
