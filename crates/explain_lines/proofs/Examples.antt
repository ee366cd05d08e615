-- Lines worked out. Assumes nothing.
use mathlib.Core.Path.{◌≡◌, refl}
use mathlib.Core.List.{[], ◌∷◌}
use Rattle.explain_lines.specs.Lines.{line_in}

-- the last line may go without its newline; behind the text there is nothing
lines : (line_in 0 (97 ∷ 10 ∷ 10 ∷ 98 ∷ []) ≡ 97 ∷ []) × (line_in 1 (97 ∷ 10 ∷ 10 ∷ 98 ∷ []) ≡ []) × (line_in 2 (97 ∷ 10 ∷ 10 ∷ 98 ∷ []) ≡ 98 ∷ []) × (line_in 9 (97 ∷ 10 ∷ []) ≡ [])
unfolding line_in
lines = (refl, refl, refl, refl)
