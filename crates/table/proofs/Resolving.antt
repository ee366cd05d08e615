-- Events and attributes are resolved one after the other. Assumes nothing.
use Prim.Native.Nat.{ℕ, zero, suc, ◌+◌, ◌-◌, ◌≤◌, ◌<◌}
use mathlib.Core.Path.{◌≡◌, refl, sym, ap, ◌∙◌}
use mathlib.Core.List.{List, [], ◌∷◌}
use native.Mathlib.Omega.{arith}
use lib.ListN.{length, drop}
use Rattle.table.specs.Table.{word, count_of}
use Rattle.table.specs.Event.{kind_at, bytes_at, attribute_at, attributes_from, event_of, event_at, resolve_from, resolve}

module _ (attributes source : List ℕ) where
  -- an empty range has no attributes
  pub attributes-none : (j : ℕ) → attributes_from attributes source 0 j ≡ []
  unfolding attributes_from
  attributes-none j = refl

  -- where the loop has reached the end of the range, no attributes are left
  pub attributes-end : (end j : ℕ) → end ≤ j → attributes_from attributes source (end - j) j ≡ []
  attributes-end end j h = let z : end - j ≡ 0 = omega arith in ap (λ (n : ℕ). attributes_from attributes source n j) z ∙ attributes-none j

  -- one attribute, and those behind it: a turn of the loop along a range
  pub attributes-next : (end j : ℕ) → j < end → attributes_from attributes source (end - j) j ≡ attribute_at attributes source j ∷ attributes_from attributes source (end - (j + 1)) (j + 1)
  unfolding attributes_from
  attributes-next end j h = let z : end - j ≡ suc (end - (j + 1)) = omega arith in ap (λ (n : ℕ). attributes_from attributes source n j) z

  pub length-attributes : (n j : ℕ) → length (attributes_from attributes source n j) ≡ n
  unfolding attributes_from
  length-attributes zero j = refl
  length-attributes (suc n) j = ap suc (length-attributes n (j + 1))

module _ (events attributes source : List ℕ) where
  -- event i by its kind: it computes, under `unfolding event_of`, once the kind is a literal
  pub event-of-kind : (i kind : ℕ) → kind_at events i ≡ kind
      → event_at events attributes source i ≡ event_of kind (bytes_at events source i) (word events i 3) (attributes_from attributes source (word events i 4) (word events i 3))
  unfolding event_at
  event-of-kind i kind e = ap (λ (k : ℕ). event_of k (bytes_at events source i) (word events i 3) (attributes_from attributes source (word events i 4) (word events i 3))) e

  pub resolve-none : (i : ℕ) → resolve_from events attributes source 0 i ≡ []
  unfolding resolve_from
  resolve-none i = refl

  -- where the loop has reached the last event, none are left
  pub resolve-end : (n i : ℕ) → n ≤ i → resolve_from events attributes source (n - i) i ≡ []
  resolve-end n i h = let z : n - i ≡ 0 = omega arith in ap (λ (m : ℕ). resolve_from events attributes source m i) z ∙ resolve-none i

  -- one event, and those behind it: a turn of the loop along the table
  pub resolve-next : (n i : ℕ) → i < n → resolve_from events attributes source (n - i) i ≡ event_at events attributes source i ∷ resolve_from events attributes source (n - (i + 1)) (i + 1)
  unfolding resolve_from
  resolve-next n i h = let z : n - i ≡ suc (n - (i + 1)) = omega arith in ap (λ (m : ℕ). resolve_from events attributes source m i) z

  length_from : (n i : ℕ) → length (resolve_from events attributes source n i) ≡ n
  unfolding resolve_from
  length_from zero i = refl
  length_from (suc n) i = ap suc (length_from n (i + 1))

  pub length-resolve : length (resolve events attributes source) ≡ count_of events
  unfolding resolve
  length-resolve = length_from (count_of events) 0

  drop-from : (n i k : ℕ) → k ≤ n → drop k (resolve_from events attributes source n i) ≡ resolve_from events attributes source (n - k) (i + k)
  unfolding resolve_from
  drop-from n i zero h =
      let z : n - 0 ≡ n = omega arith in
      let y : i + 0 ≡ i = omega arith in
      sym (ap (λ (m : ℕ). resolve_from events attributes source m (i + 0)) z ∙ ap (resolve_from events attributes source n) y)
  drop-from zero i (suc k) h = absurd (omega arith)
  drop-from (suc n) i (suc k) h =
      let z : n - k ≡ suc n - suc k = omega arith in
      let y : (i + 1) + k ≡ i + suc k = omega arith in
      drop-from n (i + 1) k (omega arith) ∙ ap (λ (m : ℕ). resolve_from events attributes source m ((i + 1) + k)) z ∙ ap (resolve_from events attributes source (suc n - suc k)) y

  -- the events from number i on
  pub drop-resolve : (i : ℕ) → i ≤ count_of events → drop i (resolve events attributes source) ≡ resolve_from events attributes source (count_of events - i) i
  unfolding resolve
  drop-resolve i h = let z : 0 + i ≡ i = omega arith in drop-from (count_of events) 0 i h ∙ ap (resolve_from events attributes source (count_of events - i)) z
