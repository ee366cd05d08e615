-- Two parts are compared from their front, byte by byte. Assumes nothing.
use Prim.Native.Nat.{ℕ, suc, ◌+◌, ◌≤◌, ◌<◌}
use mathlib.Core.Path.{◌≡◌, refl, sym, ap, ◌∙◌}
use mathlib.Core.List.{List, [], ◌∷◌}
use mathlib.Core.Bool.{Bool, true, false, cond}
use native.Mathlib.Omega.{arith}
use borrow.Author.Tests.{eq-eqb, ne_eqb}
use lib.Dec.{eqb}
use lib.ListN.{length, drop, get_or, drop_of_length-le}
use Rattle.area.proofs.Lists.{drop-next}
use Rattle.names.specs.Names.{same_bytes}

unlike : (a b : List ℕ) → (length a ≡ length b → ⊥) → same_bytes a b ≡ false
unfolding same_bytes
unlike [] [] h = absurd (h refl)
unlike [] (y ∷ ys) h = refl
unlike (x ∷ xs) [] h = refl
unlike (x ∷ xs) (y ∷ ys) h = rw (unlike xs ys (λ e. h (ap suc e))) (go (eqb x y))
  where
    go : (t : Bool) → cond t false false ≡ false
    go true = refl
    go false = refl

pub unlike-lengths : (a b : List ℕ) → (length a ≡ length b → ⊥) → false ≡ same_bytes a b
unlike-lengths a b h = sym (unlike a b h)

-- the first i bytes are equal
pub record Comparing (a b : List ℕ) (i : ℕ) : Type 0 where
  pub alike : length a ≡ length b
  pub fits : i ≤ length a
  pub left : same_bytes a b ≡ same_bytes (drop i a) (drop i b)

pub comparing-start : {a b : List ℕ} → length a ≡ length b → Comparing a b 0
comparing-start e = record { alike = e; fits = omega arith; left = refl }

module _ {a b : List ℕ} {i : ℕ} (m : Comparing a b i) where
  next : i < length a → same_bytes a b ≡ cond (eqb (get_or a i 0) (get_or b i 0)) (same_bytes (drop (i + 1) a) (drop (i + 1) b)) false
  unfolding same_bytes
  next h =
      let h' : i < length b = omega (arith, m.alike) in
      m.left ∙ rw (drop-next a i h, drop-next b i h') refl

  pub comparing-more : i < length a → get_or a i 0 ≡ get_or b i 0 → Comparing a b (i + 1)
  comparing-more h e = record { alike = m.alike; fits = omega arith; left = next h ∙ rw (eq-eqb (get_or a i 0) (get_or b i 0) e) refl }

  pub comparing_unlike : i < length a → (get_or a i 0 ≡ get_or b i 0 → ⊥) → false ≡ same_bytes a b
  comparing_unlike h e = sym (next h ∙ rw (ne_eqb (get_or a i 0) (get_or b i 0) e) refl)

  pub comparing-done : length a ≤ i → true ≡ same_bytes a b
  unfolding same_bytes
  comparing-done h =
      let h' : length b ≤ i = omega (arith, m.alike) in
      sym (m.left ∙ rw (drop_of_length-le a {i = i} h, drop_of_length-le b {i = i} h') refl)
