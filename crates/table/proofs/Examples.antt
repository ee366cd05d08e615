-- Small tables, checked and resolved. Assumes nothing.
use Prim.Native.Nat.{ℕ}
use mathlib.Core.Path.{◌≡◌, refl}
use mathlib.Core.List.{List, [], ◌∷◌}
use mathlib.Core.Bool.{true, false}
use Rattle.table_parts.specs.of_refusal.Refusal.{nowhere}
use Rattle.table.specs.Table.{good_attribute, good_shape, bad_from, check_event, check_from, good_sizes, check_of}
use Rattle.std.specs.Prelude.{Ok, Err}
use Rattle.table.specs.Event.{Start, Indent, Tag, Piece, attributes_from, event_of, event_at, resolve_from, resolve}

-- a source of two bytes
abbrev source : List ℕ
source = 97 ∷ 98 ∷ []

-- kind 10 is bad, and a bad kind concerns no attribute
kind-ten : check_of (10 ∷ 0 ∷ 0 ∷ 0 ∷ 0 ∷ []) [] source ≡ Err (0, nowhere)
unfolding good_shape bad_from check_event check_from good_sizes check_of
kind-ten = refl

-- only Start and Empty have attributes
end-with-attribute : check_of (2 ∷ 0 ∷ 1 ∷ 0 ∷ 1 ∷ []) (0 ∷ 0 ∷ 1 ∷ 1 ∷ 1 ∷ []) source ≡ Err (0, nowhere)
unfolding good_attribute good_shape bad_from check_event check_from good_sizes check_of
end-with-attribute = refl

empty-with-attribute : check_of (1 ∷ 0 ∷ 1 ∷ 0 ∷ 1 ∷ []) (0 ∷ 0 ∷ 1 ∷ 1 ∷ 1 ∷ []) source ≡ Ok tt
unfolding good_attribute good_shape bad_from check_event check_from good_sizes check_of
empty-with-attribute = refl

-- with count 0 the first attribute is ignored
first-ignored : check_of (0 ∷ 0 ∷ 1 ∷ 9 ∷ 0 ∷ []) [] source ≡ Ok tt
unfolding good_shape bad_from check_event check_from good_sizes check_of
first-ignored = refl

-- a bad attribute has its number: mark 2; an attribute that no event uses isn't checked
mark-two : check_of (0 ∷ 0 ∷ 1 ∷ 1 ∷ 1 ∷ []) (9 ∷ 0 ∷ 0 ∷ 0 ∷ 0 ∷ 2 ∷ 0 ∷ 1 ∷ 1 ∷ 1 ∷ []) source ≡ Err (0, 1)
unfolding good_attribute good_shape bad_from check_event check_from good_sizes check_of
mark-two = refl

unused : check_of (0 ∷ 0 ∷ 1 ∷ 1 ∷ 1 ∷ []) (9 ∷ 0 ∷ 0 ∷ 0 ∷ 0 ∷ 1 ∷ 0 ∷ 1 ∷ 1 ∷ 1 ∷ []) source ≡ Ok tt
unfolding good_attribute good_shape bad_from check_event check_from good_sizes check_of
unused = refl

-- the second event of two that share a good and a bad attribute is the first that uses the bad one
shared : check_of (0 ∷ 0 ∷ 1 ∷ 0 ∷ 1 ∷ 0 ∷ 0 ∷ 1 ∷ 0 ∷ 2 ∷ []) (0 ∷ 0 ∷ 1 ∷ 1 ∷ 1 ∷ 0 ∷ 2 ∷ 1 ∷ 0 ∷ 0 ∷ []) source ≡ Err (1, 1)
unfolding good_attribute good_shape bad_from check_event check_from good_sizes check_of
shared = refl

-- a range of no bytes behind the source's end is bad, at its end good
behind-end : check_of (3 ∷ 3 ∷ 0 ∷ 0 ∷ 0 ∷ []) [] source ≡ Err (0, nowhere)
unfolding good_shape bad_from check_event check_from good_sizes check_of
behind-end = refl

at-end : check_of (3 ∷ 2 ∷ 0 ∷ 0 ∷ 0 ∷ []) [] source ≡ Ok tt
unfolding good_shape bad_from check_event check_from good_sizes check_of
at-end = refl

-- sizes come before all events
four-words : check_of (10 ∷ 0 ∷ 0 ∷ 0 ∷ []) [] source ≡ Err (nowhere, nowhere)
unfolding good_sizes check_of
four-words = refl

entries : good_sizes 327680 327680 16777216 ≡ true
unfolding good_sizes
entries = refl

one-event-more : good_sizes 327685 0 0 ≡ false
unfolding good_sizes
one-event-more = refl

one-attribute-more : good_sizes 0 327685 0 ≡ false
unfolding good_sizes
one-attribute-more = refl

one-byte-more : good_sizes 0 0 16777217 ≡ false
unfolding good_sizes
one-byte-more = refl

-- an Indent is one newline, whatever its bytes
resolved : resolve (0 ∷ 0 ∷ 1 ∷ 7 ∷ 0 ∷ 9 ∷ 0 ∷ 2 ∷ 0 ∷ 0 ∷ []) [] source ≡ Tag Start (97 ∷ []) 7 [] ∷ Piece Indent (10 ∷ []) ∷ []
unfolding resolve resolve_from event_at event_of attributes_from
resolved = refl
