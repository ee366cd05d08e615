-- A byte of an end tag's name, way by way. Assumes nothing.
use Prim.Native.Nat.{ℕ, ◌+◌, ◌-◌, ◌≤◌, ◌<◌}
use mathlib.Core.Path.{◌≡◌, refl, sym, ap, ◌∙◌}
use mathlib.Core.List.{List}
use native.Mathlib.Omega.{arith}
use lib.ListN.{get_or}
use borrow.Author.Tests.{lt-ltb, le-ltb, eq-eqb, ne_eqb}
use Rattle.xml_state.specs.declared.State.{State}
use Rattle.xml_state.specs.declared.Step.TheVariants.{Go, Bad}
use Rattle.xml_state.specs.inside.Rows as row
use Rattle.xml_state.specs.inside.Registers.{in_mode}
use Rattle.xml_state.specs.inside.Acts.{wanted_of}

module _ (s : State) (b at : ℕ) (source : List ℕ) {k n p x : ℕ} (ek : k ≡ at - s.mark) (en : n ≡ s.name) (ep : p ≡ k) (ex : x ≡ get_or source (n + p) 0) where
  wants : x ≡ get_or source (s.name + (at - s.mark)) 0
  wants = ex ∙ rw (en, ep, ek) refl

  pub other_byte : (b ≡ x → ⊥) → Bad ≡ wanted_of s b at source
  unfolding wanted_of
  other_byte n = rw (ne_eqb b (get_or source (s.name + (at - s.mark)) 0) (λ q. n (q ∙ sym wants))) refl

  module _ {q l : ℕ} (same : b ≡ x) (eq : q ≡ k) (el : l ≡ s.long) where
    pub name-goes : q + 1 < l → Go s ≡ wanted_of s b at source
    unfolding wanted_of
    name-goes h =
        let h1 : at - s.mark + 1 < s.long = omega arith in
        rw (eq-eqb b (get_or source (s.name + (at - s.mark)) 0) (same ∙ wants), lt-ltb (at - s.mark + 1) s.long h1) refl

    pub name-ends : {r : State} → l ≤ q + 1 → r ≡ in_mode row.end_tag s → Go r ≡ wanted_of s b at source
    unfolding wanted_of
    name-ends h e =
        let h1 : s.long ≤ at - s.mark + 1 = omega arith in
        rw (eq-eqb b (get_or source (s.name + (at - s.mark)) 0) (same ∙ wants), le-ltb (at - s.mark + 1) s.long h1) (ap Go e)
