-- How a call ends: with its draft, or with cleared areas. Assumes nothing.
use Prim.Native.Nat.{ℕ}
use mathlib.Core.List.{List}
use mathlib.Core.Path.{◌≡◌, refl, ap, ◌∙◌}
use lib.ListN.{length}
use Rattle.text_lossy.specs.of_area.Area.{zeros}
use Rattle.tree_counts.specs.of_refusal.Refusal.{Outcome, late, refusal_from, no_refusal}
use Rattle.tree_counts.specs.of_refusal.declared.Refusal.{Refusal}
use Rattle.tree_counts.specs.of_refusal.declared.Cause.{Cause}
use Rattle.tree_counts.specs.of_refusal.declared.Verdict.TheVariants.{Accepted, Refused}
use Rattle.build_draft.specs.declared.Builder.{Builder}
use Rattle.build_draft.specs.declared.Built.{Built}
use Rattle.std.specs.Prelude.{Result, Ok, Err}
use Rattle.build_draft.specs.Draft.{Draft, no_builder, draft_of, built_from, words_left_of, text_left}

-- the answer and both areas at once
abbrev pub Settled : Result Builder Cause → List ℕ → List ℕ → Built → List ℕ → List ℕ → Type 0
Settled s words text r words' text' =
    (r ≡ built_from (draft_of s words text)) × ((words' ≡ words_left_of (length words) (draft_of s words text)) × (text' ≡ text_left (length text) (draft_of s words text)))

pub settled-done : {s : Result Builder Cause} {b : Builder} {f : Refusal} (words text : List ℕ) → s ≡ Ok b → f ≡ no_refusal
    → Settled s words text (record { verdict = Accepted; builder = b; refusal = f }) words text
unfolding draft_of
settled-done {b = b} words text e h = rw e (ap (λ (x : Refusal). record { verdict = Accepted; builder = b; refusal = x }) h, (refl, refl))

pub settled-not : {s : Result Builder Cause} {why : Cause} {b : Builder} {f : Refusal} {words' text' : List ℕ} (words text : List ℕ) → s ≡ Err why → b ≡ no_builder → f ≡ refusal_from (late why)
    → words' ≡ zeros (length words) → text' ≡ zeros (length text) → Settled s words text (record { verdict = Refused; builder = b; refusal = f }) words' text'
unfolding draft_of
settled-not words text e h k w t = rw e ((λ i. record { verdict = Refused; builder = h i; refusal = k i }), (w, t))

-- the answer and both areas of a call that comes to o, in areas that were `words` and `text`
abbrev pub Ends : Outcome Draft → List ℕ → List ℕ → Built → List ℕ → List ℕ → Type 0
Ends o words text r words' text' =
    (r ≡ built_from o) × ((words' ≡ words_left_of (length words) o) × (text' ≡ text_left (length text) o))

-- the steps keep the areas' lengths
pub ends : (words text : List ℕ) (s : Result Builder Cause) (words₁ text₁ : List ℕ) {o : Outcome Draft} {r : Built} {words' text' : List ℕ} → draft_of s words₁ text₁ ≡ o
    → length words₁ ≡ length words → length text₁ ≡ length text → Settled s words₁ text₁ r words' text' → Ends o words text r words' text'
ends words text s words₁ text₁ {o} e w t h = (
  h.0 ∙ ap built_from e,
  (
    h.1.0 ∙ ap (words_left_of (length words₁)) e ∙ ap (λ (n : ℕ). words_left_of n o) w,
    h.1.1 ∙ ap (text_left (length text₁)) e ∙ ap (λ (n : ℕ). text_left n o) t,
  ),
)
