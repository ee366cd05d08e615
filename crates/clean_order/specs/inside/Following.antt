-- The bytes that would be stored for a key, one after the other. Definitions only.
use Rattle.std.specs.Prelude.{ℕ, ◌≤◌, ◌<◌, ◌≡◌, List, ◌∷◌, length, drop}
use Rattle.text_key.specs.of_text.Value.{value_text}
use Rattle.clean_order.specs.declared.Next.{Next}

-- what is left at a place
abbrev pub rest_of : List ℕ → ℕ → ℕ → List ℕ
rest_of key at passed = drop passed (value_text (drop at key))

-- r is the byte at a place and the place behind it, where there is a byte
pub record Follows (key : List ℕ) (at passed : ℕ) (r : Next) : Type 0 where
  pub within : r.at ≤ length key
  pub rest : 0 < length (rest_of key at passed) → rest_of key at passed ≡ r.byte ∷ rest_of key r.at r.passed
