-- The test of the order, one answer after the other. Assumes nothing.
use Prim.Native.Nat.{ℕ, ◌<◌}
use mathlib.Core.Path.{◌≡◌, refl, sym, ◌∙◌}
use mathlib.Core.List.{List}
use mathlib.Core.Bool.{cond}
use native.Mathlib.Omega.{arith}
use borrow.Author.Tests.{eq-eqb, ne_eqb}
use lib.Dec.{eqb, leb, ltb}
use lib.ListN.{length, get_or}
use Rattle.key_order.specs.inside.KeyOrder.{common_length, comes}
use Rattle.key_order.proofs.Ordering.{common-most}

module _ {k l a b : List ℕ} (p : a ≡ k) (q : b ≡ l) (i j : ℕ) where
  told : comes a b i j ≡ comes k l i j
  told = cc

  unlike : (length a ≡ length b → ⊥) → comes a b i j ≡ ltb (length a) (length b)
  unfolding comes
  unlike h = rw (ne_eqb (length a) (length b) h) refl

  pub by_length : (length a ≡ length b → ⊥) → ltb (length a) (length b) ≡ comes k l i j
  by_length h = sym (unlike h) ∙ told

  module _ (e : length a ≡ length b) {at : ℕ} (f : at ≡ common_length a b) where
    alike : comes a b i j ≡ cond (eqb at (length a)) (leb i j) (ltb (get_or a at 0) (get_or b at 0))
    unfolding comes
    alike = rw (eq-eqb (length a) (length b) e) (rw f refl)

    pub by_number : at ≡ length a → leb i j ≡ comes k l i j
    by_number h = sym (alike ∙ rw (eq-eqb at (length a) h) refl) ∙ told

    pub by_byte : (at ≡ length a → ⊥) → ltb (get_or a at 0) (get_or b at 0) ≡ comes k l i j
    by_byte h = sym (alike ∙ rw (ne_eqb at (length a) h) refl) ∙ told

    pub in-first : (at ≡ length a → ⊥) → at < length a
    in-first h = let o = common-most a b in omega (arith, h)

    pub in-second : (at ≡ length a → ⊥) → at < length b
    in-second h = let o = common-most a b in omega (arith, h)
