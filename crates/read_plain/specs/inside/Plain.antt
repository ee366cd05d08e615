-- Keys that stand for themselves. Definitions only.
use Rattle.std.specs.Prelude.{ℕ, ◌≤◌, ◌<◌, ◌≡◌, List, [], ◌∷◌, Bool, true, not, ◌&&◌, ◌||◌, eqb}
use Rattle.read_chains.specs.of_text_filter.Filter.{dropped}
use Rattle.read_chains.specs.of_text.Value.{value_text}
use Rattle.read_chains.specs.of_table.Event.{key_at}

-- a byte that begins a reference (rule X3), or is dropped (rule X8)
abbrev pub altered : ℕ → Bool
altered b = eqb b 0x26 || dropped b

-- no byte is
abbrev pub unaltered : List ℕ → Bool
unaltered [] = true
unaltered (b ∷ s) = not (altered b) && unaltered s

-- what would be stored for the key of each attribute of a range is that key
abbrev pub Plain : List ℕ → List ℕ → ℕ → ℕ → Type 0
Plain attributes source first end = (i : ℕ) → first ≤ i → i < end → value_text (key_at attributes source i) ≡ key_at attributes source i
