-- Bytes read lossily, computed, as Rust's `from_utf8_lossy` has them. Assumes nothing.
use Prim.Native.Nat.{ℕ, zero, suc}
use mathlib.Core.List.{List, [], ◌∷◌, ◌++◌}
use mathlib.Core.Path.{◌≡◌, refl}
use Rattle.utf8.specs.Utf8.{need, low, high}
use Rattle.utf8_lossy.specs.Lossy.{replacement, lossy}

-- n times U+FFFD, then s
abbrev marks : ℕ → List ℕ → List ℕ
marks zero s = s
marks (suc n) s = replacement ++ marks n s

-- the first three bytes of a character of four, in front of a letter and at the end
cut_off : (lossy (0xF0 ∷ 0x90 ∷ 0x80 ∷ 0x41 ∷ []) ≡ 0xEF ∷ 0xBF ∷ 0xBD ∷ 0x41 ∷ []) × (lossy (0x41 ∷ 0xF0 ∷ 0x90 ∷ 0x80 ∷ []) ≡ 0x41 ∷ 0xEF ∷ 0xBF ∷ 0xBD ∷ [])
unfolding need low high
cut_off = (refl, refl)

-- overlong forms and a surrogate: no second byte begins a character with the first
byte-by-byte : (lossy (0xC0 ∷ 0x80 ∷ []) ≡ marks 2 []) × (lossy (0xE0 ∷ 0x80 ∷ []) ≡ marks 2 []) × (lossy (0xED ∷ 0xA0 ∷ 0x80 ∷ []) ≡ marks 3 [])
unfolding need low high
byte-by-byte = (refl, refl, refl)

-- the tables of the Unicode Standard, section 3.9: forms that are not the shortest, surrogates, other ill-formed sequences, truncated ones
not-shortest : lossy (0xC0 ∷ 0xAF ∷ 0xE0 ∷ 0x80 ∷ 0xBF ∷ 0xF0 ∷ 0x81 ∷ 0x82 ∷ 0x41 ∷ []) ≡ marks 8 (0x41 ∷ [])
unfolding need low high
not-shortest = refl

surrogates : lossy (0xED ∷ 0xA0 ∷ 0x80 ∷ 0xED ∷ 0xBF ∷ 0xBF ∷ 0xED ∷ 0xAF ∷ 0x41 ∷ []) ≡ marks 8 (0x41 ∷ [])
unfolding need low high
surrogates = refl

others : lossy (0xF4 ∷ 0x91 ∷ 0x92 ∷ 0x93 ∷ 0xFF ∷ 0x41 ∷ 0x80 ∷ 0xBF ∷ 0x42 ∷ []) ≡ marks 5 (0x41 ∷ marks 2 (0x42 ∷ []))
unfolding need low high
others = refl

truncated : lossy (0xE1 ∷ 0x80 ∷ 0xE2 ∷ 0xF0 ∷ 0x91 ∷ 0x92 ∷ 0xF1 ∷ 0xBF ∷ 0x41 ∷ []) ≡ marks 4 (0x41 ∷ [])
unfolding need low high
truncated = refl

-- UTF-8, U+FFFD itself in it
unchanged : lossy (0x61 ∷ 0xE2 ∷ 0x82 ∷ 0xAC ∷ 0xEF ∷ 0xBF ∷ 0xBD ∷ 0xF4 ∷ 0x8F ∷ 0xBF ∷ 0xBF ∷ []) ≡ 0x61 ∷ 0xE2 ∷ 0x82 ∷ 0xAC ∷ 0xEF ∷ 0xBF ∷ 0xBD ∷ 0xF4 ∷ 0x8F ∷ 0xBF ∷ 0xBF ∷ []
unfolding need low high
unchanged = refl
