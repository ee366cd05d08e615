-- Texts trimmed. Assumes nothing.
use mathlib.Core.List.{[], ◌∷◌}
use mathlib.Core.Path.{◌≡◌, refl}
use Rattle.utf8_chars.specs.of_utf8.Utf8.{need, low, high}
use Rattle.trim.specs.Trim.{trimmed}

-- U+0001, space, a
control-first : trimmed (0x01 ∷ 0x20 ∷ 0x61 ∷ []) ≡ 0x01 ∷ 0x20 ∷ 0x61 ∷ []
unfolding need low high
control-first = refl

-- U+3000, a, space, U+00E9, U+00A0, newline
wide-space : trimmed (0xE3 ∷ 0x80 ∷ 0x80 ∷ 0x61 ∷ 0x20 ∷ 0xC3 ∷ 0xA9 ∷ 0xC2 ∷ 0xA0 ∷ 0x0A ∷ []) ≡ 0x61 ∷ 0x20 ∷ 0xC3 ∷ 0xA9 ∷ []
unfolding need low high
wide-space = refl

-- U+0085, and its last byte alone
next-line : trimmed (0xC2 ∷ 0x85 ∷ 0x61 ∷ 0x85 ∷ []) ≡ 0x61 ∷ 0x85 ∷ []
unfolding need low high
next-line = refl

-- U+200A, U+200B
zero-width : trimmed (0xE2 ∷ 0x80 ∷ 0x8A ∷ 0xE2 ∷ 0x80 ∷ 0x8B ∷ []) ≡ 0xE2 ∷ 0x80 ∷ 0x8B ∷ []
unfolding need low high
zero-width = refl

only-white : trimmed (0x20 ∷ 0x09 ∷ 0x0D ∷ 0x0A ∷ []) ≡ []
unfolding need low high
only-white = refl
