-- Lines and columns worked out. Assumes nothing.
use mathlib.Core.Path.{◌≡◌, refl}
use mathlib.Core.List.{[], ◌∷◌}
use Rattle.explain_spot.specs.Spots.{line_behind, column_behind}

-- behind nothing; behind `a`, a newline, `é` and `b`
places : (line_behind [] ≡ 1) × (column_behind [] ≡ 1) × (line_behind (97 ∷ 10 ∷ 0xC3 ∷ 0xA9 ∷ 98 ∷ []) ≡ 2) × (column_behind (97 ∷ 10 ∷ 0xC3 ∷ 0xA9 ∷ 98 ∷ []) ≡ 3)
unfolding line_behind column_behind
places = (refl, refl, refl, refl)

-- a carriage return counts as a character; behind a newline a line begins
turns : (line_behind (13 ∷ 10 ∷ []) ≡ 2) × (column_behind (13 ∷ []) ≡ 2) × (column_behind (13 ∷ 10 ∷ []) ≡ 1)
unfolding line_behind column_behind
turns = (refl, refl, refl)
