-- Small skips, computed. Assumes nothing.
use Prim.Native.Nat.{ℕ}
use mathlib.Core.Path.{◌≡◌, refl}
use mathlib.Core.List.{List, [], ◌∷◌}
use Rattle.names.specs.Names.{same_bytes}
use Rattle.table.specs.Event.{TagKind, Start, Empty, End, Event, Tag, Piece, Text, Eof, Fault}
use Rattle.table_events.specs.inside.Ranges.{first_at, end_at}
use Rattle.table_events.specs.Skip.{next, broken_at, skip_of}
use Rattle.names.specs.of_refusal.declared.Cause.TheVariants as cause

abbrev a : List ℕ
a = 97 ∷ []

abbrev b : List ℕ
b = 98 ∷ []

abbrev tag : TagKind → List ℕ → Event
tag k name = Tag k name 0 []

-- event 0 is a Start `a`, event 1 the first that is given
nested : skip_of a 0 1 (tag Start a ∷ tag End a ∷ tag End a ∷ tag End a ∷ []) ≡ next 4
unfolding skip_of same_bytes
nested = refl

-- an Empty of the name and tags of other names count nothing
others : skip_of a 0 1 (tag Empty a ∷ tag Start b ∷ tag End a ∷ tag End b ∷ []) ≡ next 4
unfolding skip_of same_bytes
others = refl

unclosed : skip_of a 0 1 (tag Start a ∷ tag End a ∷ []) ≡ broken_at cause.EofInSkip 3
unfolding skip_of same_bytes
unclosed = refl

eof : skip_of a 0 1 (Piece Text a ∷ Eof ∷ tag End a ∷ []) ≡ broken_at cause.EofInSkip 2
unfolding skip_of same_bytes
eof = refl

fault : skip_of a 0 1 (Fault ∷ tag End a ∷ []) ≡ broken_at cause.XmlFault 1
unfolding skip_of same_bytes
fault = refl

-- an End of its name ends the skip at depth 0, a Start never
first-end : skip_of a 0 1 (tag End a ∷ tag End a ∷ []) ≡ next 2
unfolding skip_of same_bytes
first-end = refl

-- the table's end is no Fault
table-end : skip_of a 0 1 [] ≡ broken_at cause.EofInSkip 1
unfolding skip_of
table-end = refl

-- with count 0 the first attribute is ignored; with count 1 the range is one attribute
none-of_seven : (first_at (0 ∷ 0 ∷ 1 ∷ 7 ∷ 0 ∷ []) 0 ≡ 0) × (end_at (0 ∷ 0 ∷ 1 ∷ 7 ∷ 0 ∷ []) 0 ≡ 0)
none-of_seven = (refl, refl)

one-of_seven : (first_at (0 ∷ 0 ∷ 1 ∷ 7 ∷ 1 ∷ []) 0 ≡ 7) × (end_at (0 ∷ 0 ∷ 1 ∷ 7 ∷ 1 ∷ []) 0 ≡ 8)
one-of_seven = (refl, refl)
