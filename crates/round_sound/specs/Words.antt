-- The words of an area. Definitions only.
use Rattle.std.specs.Prelude.{ℕ, Bool, List, leb}
use Rattle.tree_layout.specs.of_tree_report.Encode.{every}

-- each has 32 bits, as the elements of a lent &[u32] have
abbrev pub are_words : List ℕ → Bool
are_words words = every (λ (w : ℕ). leb w 4294967295) words
