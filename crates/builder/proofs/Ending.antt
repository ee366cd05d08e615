-- A property or extra by its record's kind. Assumes nothing.
use Prim.Native.Nat.{ℕ}
use mathlib.Core.Path.{◌≡◌, ap, ◌∙◌}
use mathlib.Core.List.{List}
use Rattle.build_elements.specs.of_refusal.Refusal.{Outcome}
use Rattle.build_elements.specs.of_build_draft.Draft.{Draft}
use Rattle.build_elements.specs.of_build_draft.Calls.{add_pair}

pub of-kind : {o : Outcome Draft} {k κ : ℕ} (key value : List ℕ) (d : Draft) → o ≡ add_pair k key value d → k ≡ κ → o ≡ add_pair κ key value d
of-kind key value d e h = e ∙ ap (λ (x : ℕ). add_pair x key value d) h
