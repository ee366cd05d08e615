-- The order of attributes by their keys, or by what would be stored for these. Definitions only.
use Rattle.std.specs.Prelude.{ℕ, List, Bool, cond}
use Rattle.text_key.specs.of_text.Value.{value_text}
use Rattle.key_order.specs.of_table.Event.{key_at}
use Rattle.key_order.specs.inside.KeyOrder.{Comes, comes}

-- the key of attribute j, or what would be stored for it
abbrev pub key_for : Bool → List ℕ → List ℕ → ℕ → List ℕ
key_for clean attributes source j = cond clean (value_text (key_at attributes source j)) (key_at attributes source j)

abbrev pub ComesBy : Bool → List ℕ → List ℕ → ℕ → ℕ → Type 0
ComesBy clean attributes source i j = Comes (key_for clean attributes source i) (key_for clean attributes source j) i j

-- the same as a test
abbrev pub comes_by : Bool → List ℕ → List ℕ → ℕ → ℕ → Bool
comes_by clean attributes source i j = comes (key_for clean attributes source i) (key_for clean attributes source j) i j
