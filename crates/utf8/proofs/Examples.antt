-- The examples of RFC 3629, section 7, and what section 4 shuts out. Assumes nothing.
use Prim.Native.Nat.{ℕ}
use mathlib.Core.Bool.{true, false}
use mathlib.Core.List.{List, [], ◌∷◌, map}
use mathlib.Core.Path.{◌≡◌, refl}
use Rattle.utf8.specs.Characters.{scalar, chars, first_scalar, encode, boundary}
use Rattle.utf8.specs.Utf8.{need, low, high, utf8, width}

code_points : List ℕ → List ℕ
code_points s = map scalar (chars s)

not-identical-to : code_points (0x41 ∷ 0xE2 ∷ 0x89 ∷ 0xA2 ∷ 0xCE ∷ 0x91 ∷ 0x2E ∷ []) ≡ 0x0041 ∷ 0x2262 ∷ 0x0391 ∷ 0x002E ∷ []
unfolding code_points need low high
not-identical-to = refl

hangugeo : code_points (0xED ∷ 0x95 ∷ 0x9C ∷ 0xEA ∷ 0xB5 ∷ 0xAD ∷ 0xEC ∷ 0x96 ∷ 0xB4 ∷ []) ≡ 0xD55C ∷ 0xAD6D ∷ 0xC5B4 ∷ []
unfolding code_points need low high
hangugeo = refl

nihongo : code_points (0xE6 ∷ 0x97 ∷ 0xA5 ∷ 0xE6 ∷ 0x9C ∷ 0xAC ∷ 0xE8 ∷ 0xAA ∷ 0x9E ∷ []) ≡ 0x65E5 ∷ 0x672C ∷ 0x8A9E ∷ []
unfolding code_points need low high
nihongo = refl

stump_of-tree : code_points (0xEF ∷ 0xBB ∷ 0xBF ∷ 0xF0 ∷ 0xA3 ∷ 0x8E ∷ 0xB4 ∷ []) ≡ 0xFEFF ∷ 0x233B4 ∷ []
unfolding code_points need low high
stump_of-tree = refl

-- a surrogate, overlong forms, beyond U+10FFFF, a character cut off
surrogate : utf8 (0xED ∷ 0xA0 ∷ 0x80 ∷ []) ≡ false
unfolding need low high
surrogate = refl

overlong : (utf8 (0xC0 ∷ 0x80 ∷ []) ≡ false) × (utf8 (0xE0 ∷ 0x80 ∷ 0x80 ∷ []) ≡ false) × (utf8 (0xF0 ∷ 0x80 ∷ 0x80 ∷ 0x80 ∷ []) ≡ false)
unfolding need low high
overlong = (refl, refl, refl)

beyond : (utf8 (0xF4 ∷ 0x90 ∷ 0x80 ∷ 0x80 ∷ []) ≡ false) × (utf8 (0xF5 ∷ 0x80 ∷ 0x80 ∷ 0x80 ∷ []) ≡ false)
unfolding need low high
beyond = (refl, refl)

cut_off : utf8 (0x61 ∷ 0xE2 ∷ 0x89 ∷ []) ≡ false
unfolding need low high
cut_off = refl

-- the first and the last character of each width
encoded : (encode 0x7F ≡ 0x7F ∷ []) × (encode 0x80 ≡ 0xC2 ∷ 0x80 ∷ []) × (encode 0x7FF ≡ 0xDF ∷ 0xBF ∷ []) × (encode 0x800 ≡ 0xE0 ∷ 0xA0 ∷ 0x80 ∷ [])
    × (encode 0xFFFF ≡ 0xEF ∷ 0xBF ∷ 0xBF ∷ []) × (encode 0x10000 ≡ 0xF0 ∷ 0x90 ∷ 0x80 ∷ 0x80 ∷ [])
    × (encode 0x20000 ≡ 0xF0 ∷ 0xA0 ∷ 0x80 ∷ 0x80 ∷ []) × (encode 0x10FFFF ≡ 0xF4 ∷ 0x8F ∷ 0xBF ∷ 0xBF ∷ [])
unfolding encode
encoded = (refl, refl, refl, refl, refl, refl, refl, refl)

-- surrogates, and what is beyond
not-encoded : (encode 0xD7FF ≡ 0xED ∷ 0x9F ∷ 0xBF ∷ []) × (encode 0xD800 ≡ []) × (encode 0xDFFF ≡ []) × (encode 0xE000 ≡ 0xEE ∷ 0x80 ∷ 0x80 ∷ []) × (encode 0x110000 ≡ [])
unfolding encode
not-encoded = (refl, refl, refl, refl, refl)

-- U+10348 and a letter behind it; a tail alone
first_char : (width (0xF0 ∷ 0x90 ∷ 0x8D ∷ 0x88 ∷ 0x61 ∷ []) ≡ 4) × (first_scalar (0xF0 ∷ 0x90 ∷ 0x8D ∷ 0x88 ∷ 0x61 ∷ []) ≡ 0x10348) × (width (0x80 ∷ []) ≡ 0)
unfolding need low high
first_char = (refl, refl, refl)

-- between the bytes of U+00E9 there is no place
places : (boundary (0xC3 ∷ 0xA9 ∷ []) 0 ≡ true) × (boundary (0xC3 ∷ 0xA9 ∷ []) 1 ≡ false) × (boundary (0xC3 ∷ 0xA9 ∷ []) 2 ≡ true) × (boundary (0xC3 ∷ 0xA9 ∷ []) 3 ≡ false)
places = (refl, refl, refl, refl)
