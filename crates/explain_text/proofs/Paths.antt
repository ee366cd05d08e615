-- The elements that are shown are those of the refusal. Assumes nothing.
use Prim.Native.Nat.{◌≤◌}
use mathlib.Core.Path.{◌≡◌, refl}
use mathlib.Core.List.{List, [], ◌∷◌}
use native.Mathlib.Omega.{arith}
use lib.ListN.{length}
use Rattle.text.specs.of_refusal.Refusal.{path_from}
use Rattle.text.specs.of_refusal.declared.PathElement.{PathElement}
use Rattle.explain_text.specs.Explanation.{elements_of}

pub path-shown : (es : List PathElement) → length es ≤ 6 → elements_of (path_from es) ≡ es
path-shown [] h = refl
path-shown (a ∷ []) h = refl
path-shown (a ∷ b ∷ []) h = refl
path-shown (a ∷ b ∷ c ∷ []) h = refl
path-shown (a ∷ b ∷ c ∷ d ∷ []) h = refl
path-shown (a ∷ b ∷ c ∷ d ∷ e ∷ []) h = refl
path-shown (a ∷ b ∷ c ∷ d ∷ e ∷ f ∷ []) h = refl
path-shown (a ∷ b ∷ c ∷ d ∷ e ∷ f ∷ g ∷ es) h = absurd (omega arith)
