-- Two lists of equal length, R between each two elements. Definitions only.
use Rattle.std.specs.Prelude.{List, [], ◌∷◌}

pub data Pairs {A B : Type 0} (R : A → B → Type 0) : List A → List B → Type 0 where
  ended : Pairs R [] []
  next : {x : A} {y : B} {xs : List A} {ys : List B} → R x y → Pairs R xs ys → Pairs R (x ∷ xs) (y ∷ ys)
