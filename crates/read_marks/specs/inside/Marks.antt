-- Attributes that are the first with what would be stored for their keys. Definitions only.
use Rattle.std.specs.Prelude.{ℕ, ◌+◌, ◌-◌, ◌≤◌, ◌<◌, ◌≡◌, ◌⊎◌, List, false, get_or}
use Rattle.key_sort.specs.of_names.Names.{same_bytes}
use Rattle.key_sort.specs.of_text.Value.{value_text}
use Rattle.key_sort.specs.of_table.Event.{key_at}

-- what would be stored for the key of attribute j
abbrev pub stored_for : List ℕ → List ℕ → ℕ → List ℕ
stored_for attributes source j = value_text (key_at attributes source j)

-- for no attribute from `first` on, before j, the same would be stored
abbrev pub New : List ℕ → List ℕ → ℕ → ℕ → Type 0
New attributes source first j = (i : ℕ) → first ≤ i → i < j → same_bytes (stored_for attributes source i) (stored_for attributes source j) ≡ false

-- an attribute of a range from `first` on whose word is 1 is new
abbrev pub Marks : List ℕ → List ℕ → ℕ → List ℕ → Type 0
Marks attributes source first words = (i : ℕ) → get_or words i 0 ≡ 1 → New attributes source first (first + i)

-- number p of a list is the first, or for the one before it something else would be stored
abbrev pub Leads : List ℕ → List ℕ → List ℕ → ℕ → Type 0
Leads attributes source l p = (p ≡ 0) ⊎ (stored_for attributes source (get_or l (p - 1) 0) ≡ stored_for attributes source (get_or l p 0) → ⊥)
