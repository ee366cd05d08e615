-- The bytes of a range, in the terms of code. Assumes nothing.
use Prim.Native.Nat.{ℕ, ◌-◌, ◌≤◌}
use mathlib.Core.Path.{◌≡◌, sym, ap, ◌∙◌}
use mathlib.Core.List.{List}
use lib.ListN.{length, take, drop, length-drop, drop_of_length-le}
use lib.Seq.{take_all, take-nil, drop-length}
use Rattle.area.proofs.Parts.{rest_part}
use Rattle.table_parts.specs.Parts.{part}

-- the bytes of a range that starts at or behind the source's end, or ends there
module _ (source : List ℕ) (start len : ℕ) where
  pub part-past : length source ≤ start → take (length source - length source) (drop (length source) source) ≡ part source start len
  part-past h = rest_part source (length source) ∙ drop-length source ∙ sym (ap (take len) (drop_of_length-le source h) ∙ take-nil len)

  pub part-rest : length source - start ≤ len → take (length source - start) (drop start source) ≡ part source start len
  part-rest h = rest_part source start ∙ sym (take_all len (drop start source) (rw (length-drop start source) h))
