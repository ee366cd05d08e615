-- What the words of an attribute tell of, also behind the table. Assumes nothing.
use Prim.Native.Nat.{ℕ, ◌+◌, ◌-◌, ◌*◌, ◌/◌, ◌<◌}
use mathlib.Core.Path.{◌≡◌, sym, ap, ◌∙◌}
use mathlib.Core.List.{List, []}
use native.Mathlib.Omega.{arith}
use lib.ListN.{length, get_or, take, drop, get_or-eq_default}
use Rattle.table.proofs.of_area.Parts.{rest_part}
use Rattle.table.specs.Table.{word}
use Rattle.table.specs.Event.{part, value_at}
use Rattle.table.proofs.Words.{part_at}

module _ (attributes source : List ℕ) where
  -- the bytes that words k and l of attribute j tell of, where the words are lent from there on
  pub lent-part : (j k l : ℕ) → part source (get_or (take (length attributes - j * 5) (drop (j * 5) attributes)) k 0) (get_or (take (length attributes - j * 5) (drop (j * 5) attributes)) l 0)
      ≡ part source (word attributes j k) (word attributes j l)
  lent-part j k l = ap (λ (w : List ℕ). part source (get_or w k 0) (get_or w l 0)) (rest_part attributes (j * 5)) ∙ sym (part_at attributes j source k l)

  -- behind the table all words are 0
  past : (j k : ℕ) → length attributes / 5 < j → word attributes j k ≡ 0
  past j k h = get_or-eq_default attributes 0 {n = j * 5 + k} (omega arith)

  pub no_part : (j k l : ℕ) → length attributes / 5 < j → part source (word attributes j k) (word attributes j l) ≡ []
  no_part j k l h = ap (λ (n : ℕ). take n (drop (word attributes j k) source)) (past j l h)

  pub no_value : (j : ℕ) → length attributes / 5 < j → part source 0 0 ≡ value_at attributes source j
  no_value j h = sym (no_part j 3 4 h)
