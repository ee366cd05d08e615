-- Characters as bytes of UTF-8, and the character that stands open after some of its bytes (RFC 3629, section 3). Definitions only.
use Rattle.std.specs.Prelude.{ℕ, ◌+◌, ◌-◌, max, List, [], ◌∷◌, ◌++◌, Bool}
use Rattle.utf8.specs.Characters.{encode}
use Rattle.xml_chars.specs.Chars.{Range, meets}

-- the bytes of characters
abbrev pub utf8 : List ℕ → List ℕ
utf8 [] = []
utf8 (c ∷ s) = encode c ++ utf8 s

-- bytes of a character that are still to come
pub data Left : Type 0 where
  one two three : Left

abbrev pub span : Left → ℕ
span one = 64
span two = 4096
span three = 262144

-- nothing stands open; or a character of the class, its bits so far with zeros behind them, the bytes to come, and the least
-- code point of its width
pub data Part : Type 0 where
  whole : Part
  part : List Range → ℕ → Left → ℕ → Part

-- some code point of the class begins so
unfoldable pub fits : List Range → ℕ → Left → ℕ → Bool
fits cls low l least = meets cls (max low least) (low + (span l - 1))
