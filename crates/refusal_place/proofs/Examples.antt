-- The byte of a refusal, at a table of three events with two attributes and 50 bytes. Assumes nothing.
use Prim.Native.Nat.{ℕ}
use mathlib.Core.Path.{◌≡◌, refl}
use mathlib.Core.List.{List, [], ◌∷◌}
use mathlib.Core.Bool.{true, false}
use Rattle.table.specs.of_refusal.Refusal.{nowhere}
use Rattle.refusal_place.specs.Place.{root_from, byte_of}

-- an Other, a Start with both attributes, an End without bytes
abbrev events : List ℕ
events = 6 ∷ 2 ∷ 3 ∷ 0 ∷ 0 ∷ 0 ∷ 10 ∷ 9 ∷ 0 ∷ 2 ∷ 2 ∷ 0 ∷ 0 ∷ 0 ∷ 0 ∷ []

-- the value of the second is empty
abbrev attributes : List ℕ
attributes = 1 ∷ 20 ∷ 4 ∷ 26 ∷ 3 ∷ 1 ∷ 30 ∷ 4 ∷ 36 ∷ 0 ∷ []

value : byte_of false 1 0 events attributes 50 ≡ 26
unfolding byte_of
value = refl

empty-value : byte_of false 1 1 events attributes 50 ≡ 30
unfolding byte_of
empty-value = refl

tag-name : byte_of false 1 nowhere events attributes 50 ≡ 10
unfolding byte_of root_from
tag-name = refl

without-bytes : byte_of false 2 nowhere events attributes 50 ≡ 50
unfolding byte_of root_from
without-bytes = refl

table-end : byte_of false 3 nowhere events attributes 50 ≡ 50
unfolding byte_of root_from
table-end = refl

no-report : byte_of true 3 nowhere events attributes 50 ≡ 10
unfolding byte_of root_from
no-report = refl

no-element : byte_of true 0 nowhere [] attributes 50 ≡ 50
unfolding byte_of root_from
no-element = refl

whole-table : byte_of false nowhere nowhere events attributes 50 ≡ nowhere
unfolding byte_of root_from
whole-table = refl

no-such-attribute : byte_of false 1 2 events attributes 50 ≡ nowhere
unfolding byte_of
no-such-attribute = refl
