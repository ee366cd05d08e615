-- Words of an entry, in the terms of code that is lent the table from the entry on. Assumes nothing.
use Prim.Native.Nat.{ℕ, ◌*◌}
use mathlib.Core.Path.{◌≡◌, sym, ap, ◌∙◌}
use mathlib.Core.List.{List}
use lib.ListN.{get_or, drop}
use lib.Seq.{get_or-drop}
use Rattle.table.specs.Table.{word}
use Rattle.table_parts.specs.Parts.{part}

module _ (table : List ℕ) (i : ℕ) where
  -- the k-th word of an entry, where the code is lent the table from the entry on
  pub word_at : (k : ℕ) → word table i k ≡ get_or (drop (i * 5) table) k 0
  word_at k = sym (get_or-drop (i * 5) table k 0)

  -- the bytes that words k and l tell of: `bytes_at` and `key_at` have 1 and 2, `value_at` 3 and 4
  pub part_at : (source : List ℕ) (k l : ℕ) → part source (word table i k) (word table i l) ≡ part source (get_or (drop (i * 5) table) k 0) (get_or (drop (i * 5) table) l 0)
  part_at source k l =
      ap (λ (n : ℕ). part source n (word table i l)) (word_at k) ∙ ap (λ (n : ℕ). part source (get_or (drop (i * 5) table) k 0) n) (word_at l)
