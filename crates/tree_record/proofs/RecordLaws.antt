-- The words of a record after a store to one of them. Assumes nothing.
use Prim.Native.Nat.{ℕ, ◌<◌}
use mathlib.Core.Path.{◌≡◌}
use mathlib.Core.List.{List}
use lib.ListN.{length, get_or, set}
use lib.Seq.{get_or-set_same, get_or-set_other}

module _ (r : List ℕ) (o v : ℕ) where
  -- a stored word is there
  pub field-same : o < length r → get_or (set r o v) o 0 ≡ v
  field-same h = get_or-set_same r o v 0 h

  -- every other word stays
  pub field-other : (p : ℕ) → (p ≡ o → ⊥) → get_or (set r o v) p 0 ≡ get_or r p 0
  field-other p h = get_or-set_other r o p v 0 h
