-- A range whose keys stand for themselves, and one more. Assumes nothing.
use Prim.Native.Nat.{ℕ, ◌+◌}
use mathlib.Core.Path.{◌≡◌, refl, sym, ap, subst, ◌∙◌}
use mathlib.Core.List.{List, [], ◌∷◌}
use mathlib.Core.Bool.{Bool, true, false, not, ◌&&◌, ◌||◌, and-eq-true_iff, false≢true}
use native.Mathlib.Omega.{arith}
use borrow.Author.Tests.{not-true, ltb-true, ltb-false}
use lib.Dec.{eqb, ltb}
use Rattle.read_chains.specs.of_reference.Reference.{no_ampersand}
use Rattle.read_chains.specs.of_text_filter.Filter.{dropped, unfiltered}
use Rattle.read_chains.specs.of_text.Value.{value_text}
use Rattle.read_chains.proofs.of_text.Values.{plain_value}
use Rattle.read_chains.specs.of_table.Event.{key_at}
use Rattle.read_plain.specs.inside.Plain.{altered, unaltered, Plain}

or-none : (t u : Bool) → (t || u) ≡ false → (t ≡ false) × (u ≡ false)
or-none true u e = absurd (false≢true (sym e))
or-none false u e = (refl, e)

unaltered-each : (s : List ℕ) → unaltered s ≡ true → (no_ampersand s ≡ true) × (unfiltered s ≡ true)
unaltered-each [] e = (refl, refl)
unaltered-each (b ∷ s) e =
    let p = (and-eq-true_iff (not (altered b)) (unaltered s)).0 e in
    let q = or-none (eqb b 0x26) (dropped b) (not-true (altered b) p.0) in
    let r = unaltered-each s p.1 in (
      ap (λ (t : Bool). not t && no_ampersand s) q.0 ∙ r.0,
      ap (λ (t : Bool). not t && unfiltered s) q.1 ∙ r.1,
    )

pub unaltered-value : (s : List ℕ) → unaltered s ≡ true → value_text s ≡ s
unaltered-value s e = let r = unaltered-each s e in plain_value s r.0 r.1

module _ (attributes source : List ℕ) (first : ℕ) where
  pub plain-none : Plain attributes source first first
  plain-none i a b = absurd (omega arith)

  pub plain_more : {j : ℕ} → Plain attributes source first j → unaltered (key_at attributes source j) ≡ true → Plain attributes source first (j + 1)
  plain_more {j} f e i a b = go (ltb i j) refl
    where
      go : (t : Bool) → ltb i j ≡ t → value_text (key_at attributes source i) ≡ key_at attributes source i
      go true q = f i a (ltb-true i j q)
      go false q =
          let h = ltb-false i j q in
          let z : i ≡ j = omega arith in
          subst (λ (k : ℕ). value_text (key_at attributes source k) ≡ key_at attributes source k) (sym z) (unaltered-value (key_at attributes source j) e)
