-- Texts that go in lossily, computed. Assumes nothing.
use mathlib.Core.List.{[], ◌∷◌, ◌++◌}
use mathlib.Core.Path.{◌≡◌, refl}
use Rattle.utf8_lossy.specs.of_utf8.Utf8.{need, low, high}
use Rattle.utf8_lossy.specs.Lossy.{replacement}
use Rattle.text_lossy.specs.LossyText.{lossy_text}

-- the filter comes second: U+0001 between the bytes of U+20AC parts them before it is dropped
filtered-last : lossy_text (0xE2 ∷ 0x01 ∷ 0x82 ∷ 0xAC ∷ []) ≡ replacement ++ replacement ++ replacement
unfolding need low high
filtered-last = refl

-- escapes and newlines of a terminal's output, cut off in U+20AC
output : lossy_text (0x1B ∷ 0x6F ∷ 0x6B ∷ 0x0D ∷ 0x0A ∷ 0xE2 ∷ 0x82 ∷ []) ≡ 0x6F ∷ 0x6B ∷ 0x0D ∷ 0x0A ∷ 0xEF ∷ 0xBF ∷ 0xBD ∷ []
unfolding need low high
output = refl
