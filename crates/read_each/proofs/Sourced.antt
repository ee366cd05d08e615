-- Each extra's stored key is the cleaned key of an attribute before. Assumes nothing.
use Prim.Native.Nat.{ℕ, ◌+◌, ◌≤◌, ◌<◌}
use mathlib.Core.Path.{◌≡◌, ap, ◌∙◌}
use mathlib.Core.Bool.{false}
use mathlib.Core.List.{List, []}
use native.Mathlib.Omega.{arith}
use lib.ListN.{length}
use Rattle.read_free.specs.of_names.Names.{same_bytes}
use Rattle.read_free.specs.of_text.Value.{value_text}
use Rattle.read_free.specs.of_table.Event.{key_at}
use Rattle.read_free.specs.of_read_element.Attributes.{Given, place_of, among}
use Rattle.read_free.specs.inside.Unrepeated.{Unrepeated}
use Rattle.read_plain.specs.inside.Plain.{Plain}
use Rattle.read_each.proofs.Apart.{key_texts, among-append, place_none}
use Rattle.read_each.proofs.Kept.{Kept}

-- a key that no attribute from `first` to before j is cleaned to is no extra's
abbrev pub Sourced : List ℕ → List ℕ → ℕ → ℕ → Given → Type 0
Sourced attributes source first j g =
    (k : List ℕ) → ((i : ℕ) → first ≤ i → i < j → same_bytes (value_text (key_at attributes source i)) k ≡ false) → among k (key_texts g.texts g.extras) ≡ false

module _ (attributes source : List ℕ) (first : ℕ) where
  pub sourced-none : (j : ℕ) (g : Given) → g.extras ≡ [] → Sourced attributes source first j g
  sourced-none j g e k h = ap (λ (rs : List (List ℕ)). among k (key_texts g.texts rs)) e

  -- attribute j was read
  pub sourced-more : (j : ℕ) {g h : Given} → first ≤ j → Sourced attributes source first j g → Kept (key_at attributes source j) g h → Sourced attributes source first (j + 1) h
  sourced-more j {g} l s kept k f =
      ap (among k) kept.same
      ∙ among-append k (key_texts g.texts g.extras) kept.more (s k (λ i a b. f i a (omega arith))) (kept.from k (f j l (omega arith)))

  -- a key that none before attribute j is cleaned to has no place
  pub place-fresh : (j : ℕ) (g : Given) (k : List ℕ) → Sourced attributes source first j g
      → ((i : ℕ) → first ≤ i → i < j → same_bytes (value_text (key_at attributes source i)) k ≡ false) → place_of g.texts k g.extras ≡ length g.extras
  place-fresh j g k s h = place_none g.texts k g.extras (s k h)

  -- where the keys up to attribute j are plain and none is repeated, no extra before has j's
  pub place-new : (j : ℕ) {clear plain : ℕ} (g : Given) → Unrepeated attributes source first clear → Plain attributes source first plain → Sourced attributes source first j g
      → first ≤ j → j < clear → j < plain → place_of g.texts (value_text (key_at attributes source j)) g.extras ≡ length g.extras
  place-new j g f p s l c o =
      place-fresh j g (value_text (key_at attributes source j)) s
      (λ i a b. ap (λ (k : List ℕ). same_bytes k (value_text (key_at attributes source j))) (p i a (omega arith)) ∙ ap (same_bytes (key_at attributes source i)) (p j l o) ∙ f i j a b c)
