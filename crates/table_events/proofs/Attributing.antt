-- The range of an event's attributes, and the attributes of the event. Assumes nothing.
use Prim.Native.Nat.{ℕ, ◌+◌, ◌-◌, ◌≤◌, ◌<◌}
use mathlib.Core.Path.{◌≡◌, refl, sym, ap, ◌∙◌}
use mathlib.Core.List.{List}
use mathlib.Core.Bool.{Bool, true, false, cond}
use native.Mathlib.Omega.{arith}
use borrow.Author.Tests.{eqb-true, eqb-false, leb-false, lt-leb}
use lib.Dec.{leb, eqb}
use Rattle.table.specs.Table.{word, count_of, check_of}
use Rattle.std.specs.Prelude.{Ok}
use Rattle.table.specs.Event.{attributes_from, kind_at}
use Rattle.table.proofs.Resolving.{attributes-none}
use Rattle.table.proofs.ValidTables.{good-event}
use Rattle.table_events.specs.inside.Ranges.{attributes_at, first_at, end_at}

-- the range of event i: empty, or that of an event with attributes
pub data Ranged (events : List ℕ) (i : ℕ) : ℕ → ℕ → Type 0 where
  none : attributes_at events i ≡ 0 → Ranged events i 0 0
  some : i < count_of events → 0 < word events i 4 → Ranged events i (word events i 3) (word events i 3 + word events i 4)

module _ (events : List ℕ) (i : ℕ) where
  -- the range that the code takes of an event's attributes is the event's
  pub ranged : Ranged events i (first_at events i) (end_at events i)
  ranged = go (eqb (attributes_at events i) 0) refl
    where
      within : (t : Bool) → leb (count_of events) i ≡ t → (cond t 0 (word events i 4) ≡ 0 → ⊥) → (i < count_of events) × (0 < word events i 4)
      within true p h = absurd (h refl)
      within false p h = (leb-false (count_of events) i p, omega arith)

      go : (t : Bool) → eqb (attributes_at events i) 0 ≡ t → Ranged events i (cond t 0 (word events i 3)) (cond t 0 (word events i 3 + word events i 4))
      go true p = none (eqb-true (attributes_at events i) 0 p)
      go false p = let h = within (leb (count_of events) i) refl (eqb-false (attributes_at events i) 0 p) in some h.0 h.1

-- a range begins no later than it ends
pub range-order : {events : List ℕ} {i first end : ℕ} → Ranged events i first end → first ≤ end
range-order (none e) = omega arith
range-order (some h k) = omega arith

-- an empty range of an event in the table
pub range-empty : (events : List ℕ) (i : ℕ) → i < count_of events → attributes_at events i ≡ 0 → word events i 4 ≡ 0
range-empty events i h e = sym (ap (λ (t : Bool). cond t 0 (word events i 4)) (lt-leb (count_of events) i h)) ∙ e

module _ {events : List ℕ} {i : ℕ} (attributes source : List ℕ) where
  -- the attributes in the range are the event's
  pub range-attributes : {first end : ℕ} → i < count_of events → Ranged events i first end →
      attributes_from attributes source (end - first) first ≡ attributes_from attributes source (word events i 4) (word events i 3)
  range-attributes h (none e) =
      attributes-none attributes source 0 ∙ sym (ap (λ (n : ℕ). attributes_from attributes source n (word events i 3)) (range-empty events i h e) ∙ attributes-none attributes source (word events i 3))
  range-attributes h (some l k) =
      let z : word events i 3 + word events i 4 - word events i 3 ≡ word events i 4 = omega arith in
      ap (λ (n : ℕ). attributes_from attributes source n (word events i 3)) z

  -- of a table that is good
  pub range-high : {first end : ℕ} → check_of events attributes source ≡ Ok tt → Ranged events i first end → end ≤ count_of attributes
  range-high good (none e) = omega arith
  range-high good (some h k) = (good-event events attributes source good i h).range k

  -- only a Start and an Empty have attributes
  pub range_none : {first end : ℕ} → check_of events attributes source ≡ Ok tt → 1 < kind_at events i → Ranged events i first end → (first ≡ 0) × (end ≡ 0)
  range_none good l (none e) = (refl, refl)
  range_none good l (some h k) = let z = (good-event events attributes source good i h).tag k in absurd (omega arith)
