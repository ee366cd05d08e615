-- Event and attribute, by the parts in which they are put. Assumes nothing.
use Prim.Native.Nat.{ℕ}
use mathlib.Core.Path.{◌≡◌, refl, sym, ap}
use mathlib.Core.List.{List, [], ◌++◌, append_assoc}
use borrow.Author.Tests.{eq-eqb, ne_eqb}
use Rattle.explain_element.specs.of_refusal.Refusal.{nowhere}
use Rattle.explain_element.specs.of_names.Bytes.{bytes}
use Rattle.explain_element.specs.of_digits.Digits.{decimal}
use Rattle.explain_element.specs.of_explain_text.Explanation.{place_text}

module _ (event attribute : ℕ) where
  pub no-event : event ≡ nowhere → [] ≡ place_text event attribute
  unfolding place_text
  no-event e = sym (rw (eq-eqb event nowhere e) refl)

  module _ (h : event ≡ nowhere → ⊥) where
    pub event-alone : attribute ≡ nowhere → bytes " (event " ++ (decimal event ++ bytes ")") ≡ place_text event attribute
    unfolding place_text
    event-alone e = sym (rw (ne_eqb event nowhere h, eq-eqb attribute nowhere e) refl)

    pub event-attribute : (attribute ≡ nowhere → ⊥) → bytes " (event " ++ (decimal event ++ (bytes ", attribute " ++ (decimal attribute ++ bytes ")"))) ≡ place_text event attribute
    unfolding place_text
    event-attribute e = sym (rw (ne_eqb event nowhere h, ne_eqb attribute nowhere e)
        (ap (λ (l : List ℕ). bytes " (event " ++ (decimal event ++ l)) (append_assoc (bytes ", attribute ") (decimal attribute) (bytes ")"))))
