-- Texts escaped, computed. Assumes nothing.
use mathlib.Core.Path.{◌≡◌, refl}
use mathlib.Core.List.{[], ◌∷◌}
use Rattle.names.specs.Bytes.{bytes}
use Rattle.write_escape.specs.Escape.{written, escaped}

-- each of the five
all-five : escaped (bytes "<a b='c'>&\"") ≡ bytes "&lt;a b=&apos;c&apos;&gt;&amp;&quot;"
unfolding written
all-five = refl

-- a reference in the text is text
escaped-twice : escaped (bytes "&amp;") ≡ bytes "&amp;amp;"
unfolding written
escaped-twice = refl

-- newline, tab, NUL and the bytes of ä stay as they are
others : escaped (0x0A ∷ 0x09 ∷ 0x00 ∷ 0xC3 ∷ 0xA4 ∷ []) ≡ 0x0A ∷ 0x09 ∷ 0x00 ∷ 0xC3 ∷ 0xA4 ∷ []
unfolding written
others = refl

empty : escaped [] ≡ []
empty = refl
