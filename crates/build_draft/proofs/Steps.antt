-- One part of a call behind another. Assumes nothing.
use Prim.Native.Nat.{ℕ}
use mathlib.Core.Path.{◌≡◌, sym, ap, ◌∙◌}
use mathlib.Core.List.{List}
use Rattle.tree_counts.specs.of_refusal.Refusal.{Outcome, accepted}
use Rattle.tree_counts.specs.of_refusal.declared.Cause.{Cause}
use Rattle.build_draft.specs.declared.Builder.{Builder}
use Rattle.std.specs.Prelude.{Result, Ok, Err, IsErrAnd}
use Rattle.build_draft.specs.Draft.{Draft, draft_of, ◌>>=◌, next}

abbrev pub plain : Builder → List ℕ → List ℕ → Draft
plain b words text = record { builder = b; words = words; text = text }

module _ (step : Result Builder Cause) (words text : List ℕ) where
  -- the first part refused: it is the answer, whatever the areas hold
  pub then-refused : {why : Cause} {m : Outcome Draft} (f : Draft → Outcome Draft) (words' text' : List ℕ) → step ≡ Err why → draft_of step words text ≡ m → draft_of step words' text' ≡ next m f
  unfolding draft_of ◌>>=◌
  then-refused f words' text' e h = ap (λ (x : Result Builder Cause). draft_of x words' text') e ∙ ap (λ (x : Outcome Draft). x >>= f) (sym (ap (λ (x : Result Builder Cause). draft_of x words text) e) ∙ h)

  -- the first part is done: the second decides
  pub then-done : {b : Builder} {m : Outcome Draft} (f : Draft → Outcome Draft) → step ≡ Ok b → draft_of step words text ≡ m → f (plain b words text) ≡ next m f
  unfolding draft_of ◌>>=◌
  then-done f e h = ap (λ (x : Outcome Draft). x >>= f) (sym (ap (λ (x : Result Builder Cause). draft_of x words text) e) ∙ h)

  -- a part of a call that was done: what it left is the draft that the definition accepts
  pub is-done : {b : Builder} {m : Outcome Draft} → step ≡ Ok b → draft_of step words text ≡ m → accepted (plain b words text) ≡ m
  unfolding draft_of
  is-done e h = sym (ap (λ (x : Result Builder Cause). draft_of x words text) e) ∙ h

-- a `?` hands the cause on: what it returns is what it was given
pub handed-on : (r s : Result Builder Cause) {why : Cause} → IsErrAnd r (λ e. e ≡ why) → s ≡ Err why → r ≡ s
handed-on (Ok b) s h g = elim h [ ]
handed-on (Err e) s h g = rw h (sym g)
