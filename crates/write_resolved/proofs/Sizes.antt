-- How many words items take. Assumes nothing.
use Prim.Native.Nat.{ℕ, suc, ◌+◌, ◌*◌, ◌≤◌, ◌<◌}
use mathlib.Core.Path.{◌≡◌, refl, ap, ◌∙◌}
use mathlib.Core.List.{List, [], ◌∷◌, ◌++◌}
use native.Mathlib.Omega.{arith}
use lib.ListN.{length, length-drop}
use Rattle.write_report.specs.of_table.Table.{count_of}
use Rattle.write_report.specs.of_table.Event.{Attribute, Event, Tag, Piece, Eof, Fault}
use Rattle.write_report.specs.Written.{numbered}
use Rattle.write_table.specs.Laid.{Item, entry, pair, pairs_of_it, items_of, event_words, attribute_words}
use Rattle.write_resolved.proofs.Standing.{Standing}

-- the events and the attributes among items
unfoldable pub entries_in : List Item → ℕ
entries_in [] = 0
entries_in (entry kind s n ∷ is) = suc (entries_in is)
entries_in (pair key value ∷ is) = entries_in is

unfoldable pub pairs_in : List Item → ℕ
pairs_in [] = 0
pairs_in (entry kind s n ∷ is) = pairs_in is
pairs_in (pair key value ∷ is) = suc (pairs_in is)

-- five words for each event
pub length-events : (a b : ℕ) (is : List Item) → length (event_words a b is) ≡ entries_in is * 5
unfolding event_words entries_in
length-events a b [] = refl
length-events a b (entry kind s n ∷ is) = omega (arith, length-events a (b + length s) is)
length-events a b (pair key value ∷ is) = length-events (a + 1) (b + length (key ++ value)) is

-- five words for each attribute
pub length-attributes : (b : ℕ) (is : List Item) → length (attribute_words b is) ≡ pairs_in is * 5
unfolding attribute_words pairs_in
length-attributes b [] = refl
length-attributes b (entry kind s n ∷ is) = length-attributes (b + length s) is
length-attributes b (pair key value ∷ is) = omega (arith, length-attributes (b + length (key ++ value)) is)

module _ (is : List Item) where
  no-entries : (xs : List Attribute) → entries_in (pairs_of_it xs ++ is) ≡ entries_in is
  unfolding entries_in
  no-entries [] = refl
  no-entries (a ∷ xs) = no-entries xs

  pairs_of : (xs : List Attribute) → pairs_in (pairs_of_it xs ++ is) ≡ length xs + pairs_in is
  unfolding pairs_in
  pairs_of [] = omega arith
  pairs_of (a ∷ xs) = omega (arith, pairs_of xs)

-- each event is one entry
pub entries_of : (n : ℕ) (es : List Event) → entries_in (items_of (numbered n es)) ≡ length es
unfolding items_of numbered entries_in
entries_of n [] = refl
entries_of n (Tag kind name first xs ∷ es) = ap suc (no-entries (items_of (numbered (n + length xs) es)) xs ∙ entries_of (n + length xs) es)
entries_of n (Piece kind s ∷ es) = ap suc (entries_of (n + 0) es)
entries_of n (Eof ∷ es) = ap suc (entries_of (n + 0) es)
entries_of n (Fault ∷ es) = ap suc (entries_of (n + 0) es)

-- the attributes of an event are in the table
pub pairs-within : {events attributes source : List ℕ} {i j b : ℕ} (xs : List Attribute) (is : List Item) →
    Standing events attributes source i j b (pairs_of_it xs ++ is) → 0 < length xs → j + length xs ≤ count_of attributes
pairs-within {attributes = attributes} {j = j} {b = b} xs is t h =
    omega (arith, length-drop (j * 5) attributes, ap length t.pairs, length-attributes b (pairs_of_it xs ++ is), pairs_of is xs)
