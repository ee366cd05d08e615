-- Texts escaped, computed. Assumes nothing.
use mathlib.Core.Path.{◌≡◌, refl}
use mathlib.Core.List.{[], ◌∷◌}
use Rattle.escape.specs.Escape.{letter, listed, escaped}

-- `"`, `\`, newline, tab, return
marks : escaped (0x22 ∷ 0x5C ∷ 0x0A ∷ 0x09 ∷ 0x0D ∷ []) ≡ 0x5C ∷ 0x22 ∷ 0x5C ∷ 0x5C ∷ 0x5C ∷ 0x6E ∷ 0x5C ∷ 0x74 ∷ 0x5C ∷ 0x72 ∷ []
unfolding listed letter
marks = refl

-- `'`, `n`, U+00E9 stay
others : escaped (0x27 ∷ 0x6E ∷ 0xC3 ∷ 0xA9 ∷ []) ≡ 0x27 ∷ 0x6E ∷ 0xC3 ∷ 0xA9 ∷ []
unfolding listed letter
others = refl
