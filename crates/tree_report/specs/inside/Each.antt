-- P of each element of a list. Definitions only.
use Rattle.std.specs.Prelude.{List, [], ◌∷◌}

pub data Each {A : Type 0} (P : A → Type 0) : List A → Type 0 where
  done : Each P []
  more : {x : A} {xs : List A} → P x → Each P xs → Each P (x ∷ xs)
