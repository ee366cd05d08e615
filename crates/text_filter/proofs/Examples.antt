-- The filter, computed. Assumes nothing.
use mathlib.Core.Path.{◌≡◌, refl}
use mathlib.Core.List.{[], ◌∷◌}
use Rattle.text_filter.specs.Filter.{filtered}

-- what the filter drops ends beside tab, newline, return and space
edges : filtered (0x00 ∷ 0x08 ∷ 0x09 ∷ 0x0A ∷ 0x0B ∷ 0x0C ∷ 0x0D ∷ 0x0E ∷ 0x1F ∷ 0x20 ∷ 0x7F ∷ []) ≡ 0x09 ∷ 0x0A ∷ 0x0D ∷ 0x20 ∷ 0x7F ∷ []
edges = refl
