-- Codes of names, computed. Assumes nothing.
use mathlib.Core.Path.{◌≡◌, refl}
use mathlib.Core.List.{[], ◌∷◌}
use mathlib.Core.Bool.{true, false}
use Rattle.names.specs.Bytes.{bytes}
use Rattle.names.specs.Names.{same_bytes, code_from, cut}
use Rattle.names.specs.Tags.{tags, tag_of}
use Rattle.names.specs.Keys.{keys, key_of, is_public}

-- a name is the same letter by letter, and to its end
same : (same_bytes (bytes "time") (bytes "time") ≡ true) × (same_bytes (bytes "time") (bytes "Time") ≡ false) × (same_bytes (bytes "time") (bytes "times") ≡ false)
unfolding same_bytes
same = (refl, refl, refl)

tag_names : (tag_of (bytes "skipped") ≡ 8) × (tag_of (bytes "rerunError") ≡ 12) × (tag_of (bytes "rerunerror") ≡ 0)
unfolding tags code_from same_bytes
tag_names = (refl, refl, refl)

-- a tag's name is no key, nor the other way round
key-names : (key_of (bytes "type") ≡ 13) × (key_of (bytes "kind") ≡ 0) × (key_of (bytes "failure") ≡ 0) × (key_of (bytes "failures") ≡ 7) × (key_of [] ≡ 0)
unfolding keys code_from same_bytes
key-names = (refl, refl, refl, refl, refl)

-- the last public key, the first other one, the last other one, and what is no key
public : (is_public (key_of (bytes "assertions")) ≡ true) × (is_public (key_of (bytes "message")) ≡ false) × (is_public (key_of (bytes "hostname")) ≡ false)
    × (is_public (key_of (bytes "kind")) ≡ false)
unfolding keys code_from same_bytes
public = (refl, refl, refl, refl)

-- names of lengths that go past the bytes
short-table : cut (bytes "ab") (1 ∷ 3 ∷ 1 ∷ []) ≡ bytes "a" ∷ bytes "b" ∷ [] ∷ []
unfolding cut
short-table = refl
