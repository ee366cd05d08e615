-- The keys before an attribute. Assumes nothing.
use Prim.Native.Nat.{ℕ, zero, suc, ◌+◌, ◌-◌, ◌≤◌, ◌<◌}
use mathlib.Core.Path.{◌≡◌, refl, ap, ◌∙◌}
use mathlib.Core.Bool.{Bool, false, ◌||◌}
use mathlib.Core.List.{List, [], ◌∷◌, ◌++◌}
use native.Mathlib.Omega.{arith}
use Rattle.read_free.specs.of_names.Names.{same_bytes}
use Rattle.read_free.specs.of_table.Event.{key_at, attributes_from}
use Rattle.read_free.specs.of_read_element.Attributes.{among}
use Rattle.read_free.specs.of_read_element.inside.Held.{keys_of}
use Rattle.read_free.specs.inside.Unrepeated.{Unrepeated}

module _ (attributes source : List ℕ) where
  among_none : (key : List ℕ) (n i : ℕ) → ((k : ℕ) → i ≤ k → k < i + n → same_bytes (key_at attributes source k) key ≡ false) → among key (keys_of (attributes_from attributes source n i)) ≡ false
  unfolding attributes_from
  among_none key zero i h = refl
  among_none key (suc n) i h =
      ap (λ (t : Bool). t || among key (keys_of (attributes_from attributes source n (i + 1)))) (h i (omega arith) (omega arith))
      ∙ among_none key n (i + 1) (λ k a b. h k (omega arith) (omega arith))

  keys-more : (n i : ℕ) → keys_of (attributes_from attributes source (suc n) i) ≡ keys_of (attributes_from attributes source n i) ++ (key_at attributes source (i + n) ∷ [])
  unfolding attributes_from
  keys-more zero i = let z : i ≡ i + 0 = omega arith in ap (λ (k : ℕ). key_at attributes source k ∷ []) z
  keys-more (suc n) i =
      let z : i + 1 + n ≡ i + suc n = omega arith in
      ap (λ (ks : List (List ℕ)). key_at attributes source i ∷ ks)
      (keys-more n (i + 1) ∙ ap (λ (k : ℕ). keys_of (attributes_from attributes source n (i + 1)) ++ (key_at attributes source k ∷ [])) z)

  -- the keys before attribute j + 1 are those before j, and j's
  pub keys-next : (first j : ℕ) → first ≤ j
      → keys_of (attributes_from attributes source (j + 1 - first) first) ≡ keys_of (attributes_from attributes source (j - first) first) ++ (key_at attributes source j ∷ [])
  keys-next first j h =
      let y : j + 1 - first ≡ suc (j - first) = omega arith in
      let z : first + (j - first) ≡ j = omega arith in
      ap (λ (n : ℕ). keys_of (attributes_from attributes source n first)) y
      ∙ keys-more (j - first) first
      ∙ ap (λ (k : ℕ). keys_of (attributes_from attributes source (j - first) first) ++ (key_at attributes source k ∷ [])) z

  -- where no key is repeated, an attribute's key isn't among those before it
  pub free-key : (first end j : ℕ) → Unrepeated attributes source first end → first ≤ j → j < end
      → among (key_at attributes source j) (keys_of (attributes_from attributes source (j - first) first)) ≡ false
  free-key first end j f l h = among_none (key_at attributes source j) (j - first) first (λ k a b. f k j a (omega arith) h)
