-- Items are put exactly where they have room. Assumes nothing.
use Prim.Native.Nat.{ℕ, ◌+◌, ◌*◌, ◌-◌, ◌≤◌}
use mathlib.Core.Path.{◌≡◌, refl, sym, ap, ◌∙◌}
use mathlib.Core.List.{List, [], ◌∷◌, ◌++◌}
use mathlib.Core.Bool.{Bool, true, false, cond, ◌&&◌, true≢false}
use native.Mathlib.Omega.{arith}
use borrow.Author.Tests.{le-leb, lt-ltb, leb-true, ltb-true}
use lib.Dec.{leb, ltb}
use lib.ListN.{length, length-append}
use Rattle.write_spelled.specs.of_area.Limits.{most_entries, most_bytes}
use Rattle.write_spelled.specs.of_table.Event.{Attribute, Event, Tag, Piece, Eof, Fault}
use Rattle.write_table.specs.Laid.{Item, entry, pair, entry_words, pair_words, laid_bytes, pairs_of_it, items_of}
use Rattle.write_table.specs.inside.Putting.{Held, Spelling, Kept, none, some, xml, table_room, byte_room, entry_limits, pair_limits, with_entry, with_pair, put, put_all}
use Rattle.write_table.proofs.Filling.{entries, pairs, after, length_over, after_none, after-entry, after-pair}

-- ---- room for all items
pub record Room (h : Held) (is : List Item) : Type 0 where
  pub events_in : (h.events + entries is) * 5 ≤ length h.event_area
  pub events_most : h.events + entries is ≤ most_entries
  pub attributes_in : (h.attributes + pairs is) * 5 ≤ length h.attribute_area
  pub attributes_most : h.attributes + pairs is ≤ most_entries
  pub bytes_in : h.bytes + length (laid_bytes is) ≤ length h.byte_area
  pub bytes_most : h.bytes + length (laid_bytes is) ≤ most_bytes

module _ (h : Held) (kind : ℕ) (s : List ℕ) (n : ℕ) where
  abbrev now-entry : List ℕ
  now-entry = entry_words h.attributes h.bytes kind s n

  room-entry : (is : List Item) → Room h (entry kind s n ∷ is) → Room (with_entry h kind s n) is
  unfolding entries pairs laid_bytes
  room-entry is r =
      let l = length-append s (laid_bytes is) in
      let e = length_over h.event_area (h.events * 5) now-entry in
      let b = length_over h.byte_area h.bytes s in
      record { events_in = omega arith; events_most = omega arith; attributes_in = r.attributes_in; attributes_most = r.attributes_most; bytes_in = omega arith; bytes_most = omega arith }

  entry-room : (is : List Item) → Room (with_entry h kind s n) is → Room h (entry kind s n ∷ is)
  unfolding entries pairs laid_bytes
  entry-room is r =
      let l = length-append s (laid_bytes is) in
      let e = length_over h.event_area (h.events * 5) now-entry in
      let b = length_over h.byte_area h.bytes s in
      record { events_in = omega arith; events_most = omega arith; attributes_in = r.attributes_in; attributes_most = r.attributes_most; bytes_in = omega arith; bytes_most = omega arith }

module _ (h : Held) (key value : List ℕ) where
  abbrev now-pair : List ℕ
  now-pair = pair_words h.bytes key value

  room-pair : (is : List Item) → Room h (pair key value ∷ is) → Room (with_pair h key value) is
  unfolding entries pairs laid_bytes
  room-pair is r =
      let l = length-append (key ++ value) (laid_bytes is) in
      let a = length_over h.attribute_area (h.attributes * 5) now-pair in
      let b = length_over h.byte_area h.bytes (key ++ value) in
      record { events_in = r.events_in; events_most = r.events_most; attributes_in = omega arith; attributes_most = omega arith; bytes_in = omega arith; bytes_most = omega arith }

  pair-room : (is : List Item) → Room (with_pair h key value) is → Room h (pair key value ∷ is)
  unfolding entries pairs laid_bytes
  pair-room is r =
      let l = length-append (key ++ value) (laid_bytes is) in
      let a = length_over h.attribute_area (h.attributes * 5) now-pair in
      let b = length_over h.byte_area h.bytes (key ++ value) in
      record { events_in = r.events_in; events_most = r.events_most; attributes_in = omega arith; attributes_most = omega arith; bytes_in = omega arith; bytes_most = omega arith }

-- ---- the tests of one item
abbrev entry_test : Held → ℕ → ℕ → Bool
entry_test h m n = entry_limits h.events (h.bytes + m) h.attributes n && (table_room h.events h.event_area && byte_room h.bytes m h.byte_area)

abbrev pair_test : Held → ℕ → Bool
pair_test h m = pair_limits h.attributes (h.bytes + m) && (table_room h.attributes h.attribute_area && byte_room h.bytes m h.byte_area)

all-five : {p q r s t : Bool} → p ≡ true → q ≡ true → r ≡ true → s ≡ true → t ≡ true → ((p && (q && r)) && (s && t)) ≡ true
all-five a b c d e = rw (a, b, c, d, e) refl

all-four : {p q r s : Bool} → p ≡ true → q ≡ true → r ≡ true → s ≡ true → ((p && q) && (r && s)) ≡ true
all-four a b c d = rw (a, b, c, d) refl

-- two tests that hold together hold each
pub both : (p q : Bool) → (p && q) ≡ true → (p ≡ true) × (q ≡ true)
both true q e = (refl, e)
both false q e = absurd (true≢false (sym e))

module _ (h : Held) (kind : ℕ) (s : List ℕ) (n : ℕ) (is : List Item) where
  -- its own attributes stand behind the event
  entry-passes : n ≤ pairs is → Room h (entry kind s n ∷ is) → entry_test h (length s) n ≡ true
  unfolding entries pairs laid_bytes
  entry-passes p r =
      let l = length-append s (laid_bytes is) in
      all-five (lt-ltb h.events most_entries (omega arith)) (le-leb (h.bytes + length s) most_bytes (omega arith)) (le-leb (h.attributes + n) most_entries (omega arith))
      (le-leb 5 (length h.event_area - h.events * 5) (omega arith)) (le-leb (length s) (length h.byte_area - h.bytes) (omega arith))

  entry_kept : n ≤ pairs is → Room h (entry kind s n ∷ is) → put h (entry kind s n) ≡ some (with_entry h kind s n)
  unfolding put
  entry_kept p r = ap (λ (t : Bool). cond t (some (with_entry h kind s n)) none) (entry-passes p r)

  entry-after : Room h (entry kind s n ∷ is) → after (with_entry h kind s n) is ≡ after h (entry kind s n ∷ is)
  unfolding entries pairs laid_bytes
  entry-after r = let l = length-append s (laid_bytes is) in after-entry h kind s n is (omega arith) (omega arith)

module _ (h : Held) (key value : List ℕ) (is : List Item) where
  pair-passes : Room h (pair key value ∷ is) → pair_test h (length (key ++ value)) ≡ true
  unfolding entries pairs laid_bytes
  pair-passes r =
      let l = length-append (key ++ value) (laid_bytes is) in
      all-four (lt-ltb h.attributes most_entries (omega arith)) (le-leb (h.bytes + length (key ++ value)) most_bytes (omega arith))
      (le-leb 5 (length h.attribute_area - h.attributes * 5) (omega arith)) (le-leb (length (key ++ value)) (length h.byte_area - h.bytes) (omega arith))

  pair-kept : Room h (pair key value ∷ is) → put h (pair key value) ≡ some (with_pair h key value)
  unfolding put
  pair-kept r = ap (λ (t : Bool). cond t (some (with_pair h key value)) none) (pair-passes r)

  pair-after : Room h (pair key value ∷ is) → after (with_pair h key value) is ≡ after h (pair key value ∷ is)
  unfolding entries pairs laid_bytes
  pair-after r = let l = length-append (key ++ value) (laid_bytes is) in after-pair h key value is (omega arith) (omega arith)

-- what passed has room
passed_entry : (h : Held) (kind : ℕ) (s : List ℕ) (n : ℕ) → Room h [] → entry_test h (length s) n ≡ true → Room (with_entry h kind s n) []
unfolding entries pairs laid_bytes
passed_entry h kind s n r t =
    let p = both (entry_limits h.events (h.bytes + length s) h.attributes n) (table_room h.events h.event_area && byte_room h.bytes (length s) h.byte_area) t in
    let q = both (ltb h.events most_entries) (leb (h.bytes + length s) most_bytes && leb (h.attributes + n) most_entries) p.0 in
    let u = both (leb (h.bytes + length s) most_bytes) (leb (h.attributes + n) most_entries) q.1 in
    let v = both (table_room h.events h.event_area) (byte_room h.bytes (length s) h.byte_area) p.1 in
    let x₁ = ltb-true h.events most_entries q.0 in
    let x₂ = leb-true (h.bytes + length s) most_bytes u.0 in
    let x₃ = leb-true 5 (length h.event_area - h.events * 5) v.0 in
    let x₄ = leb-true (length s) (length h.byte_area - h.bytes) v.1 in
    let e = length_over h.event_area (h.events * 5) (entry_words h.attributes h.bytes kind s n) in
    let b = length_over h.byte_area h.bytes s in
    record { events_in = omega arith; events_most = omega arith; attributes_in = r.attributes_in; attributes_most = r.attributes_most; bytes_in = omega arith; bytes_most = omega arith }

passed-pair : (h : Held) (key value : List ℕ) → Room h [] → pair_test h (length (key ++ value)) ≡ true → Room (with_pair h key value) []
unfolding entries pairs laid_bytes
passed-pair h key value r t =
    let p = both (pair_limits h.attributes (h.bytes + length (key ++ value))) (table_room h.attributes h.attribute_area && byte_room h.bytes (length (key ++ value)) h.byte_area) t in
    let q = both (ltb h.attributes most_entries) (leb (h.bytes + length (key ++ value)) most_bytes) p.0 in
    let v = both (table_room h.attributes h.attribute_area) (byte_room h.bytes (length (key ++ value)) h.byte_area) p.1 in
    let x₁ = ltb-true h.attributes most_entries q.0 in
    let x₂ = leb-true (h.bytes + length (key ++ value)) most_bytes q.1 in
    let x₃ = leb-true 5 (length h.attribute_area - h.attributes * 5) v.0 in
    let x₄ = leb-true (length (key ++ value)) (length h.byte_area - h.bytes) v.1 in
    let a = length_over h.attribute_area (h.attributes * 5) (pair_words h.bytes key value) in
    let b = length_over h.byte_area h.bytes (key ++ value) in
    record { events_in = r.events_in; events_most = r.events_most; attributes_in = omega arith; attributes_most = omega arith; bytes_in = omega arith; bytes_most = omega arith }

-- ---- all items: behind each event stand at least as many attributes as it says
abbrev pub Backed : List Item → Type 0
Backed [] = Unit {0}
Backed (entry kind s n ∷ is) = (n ≤ pairs is) × Backed is
Backed (pair key value ∷ is) = Backed is

backed-pairs : (xs : List Attribute) (is : List Item) → Backed is → Backed (pairs_of_it xs ++ is)
backed-pairs [] is b = b
backed-pairs (a ∷ xs) is b = backed-pairs xs is b

pairs_of : (xs : List Attribute) (is : List Item) → pairs (pairs_of_it xs ++ is) ≡ length xs + pairs is
unfolding pairs
pairs_of [] is = omega arith
pairs_of (a ∷ xs) is = let h = pairs_of xs is in omega arith

pub backed_items : (es : List Event) → Backed (items_of es)
unfolding items_of
backed_items [] = tt
backed_items (Tag kind name first xs ∷ es) = (let h = pairs_of xs (items_of es) in omega arith, backed-pairs xs (items_of es) (backed_items es))
backed_items (Piece kind s ∷ es) = (omega arith, backed_items es)
backed_items (Eof ∷ es) = (omega arith, backed_items es)
backed_items (Fault ∷ es) = (omega arith, backed_items es)

pub room-kept : (h : Held) (is : List Item) → Backed is → Room h is → put_all (some h) is ≡ some (after h is)
unfolding put_all
room-kept h [] b r = ap some (sym (after_none h))
room-kept h (entry kind s n ∷ is) b r =
    ap (λ (x : Kept). put_all x is) (entry_kept h kind s n is b.0 r)
    ∙ room-kept (with_entry h kind s n) is b.1 (room-entry h kind s n is r)
    ∙ ap some (entry-after h kind s n is r)
room-kept h (pair key value ∷ is) b r =
    ap (λ (x : Kept). put_all x is) (pair-kept h key value is r)
    ∙ room-kept (with_pair h key value) is b (room-pair h key value is r)
    ∙ ap some (pair-after h key value is r)

never : (is : List Item) {k : Held} → put_all none is ≡ some k → ⊥
unfolding put_all
never [] p = let z : ◌≡◌ {A = ℕ} 0 1 = cc in omega arith
never (i ∷ is) p = let z : ◌≡◌ {A = ℕ} 0 1 = cc in omega arith

-- a table stays one
none-xml : (is : List Item) (k : Spelling) → put_all none is ≡ xml k → ⊥
unfolding put_all
none-xml [] k p = let z : ◌≡◌ {A = ℕ} 0 1 = cc in omega arith
none-xml (i ∷ is) k p = let z : ◌≡◌ {A = ℕ} 0 1 = cc in omega arith

either-xml : (t : Bool) (w : Held) (is : List Item) (k : Spelling) → (put_all (some w) is ≡ xml k → ⊥) → put_all (cond t (some w) none) is ≡ xml k → ⊥
either-xml true w is k f p = f p
either-xml false w is k f p = none-xml is k p

pub never-xml : (h : Held) (is : List Item) (k : Spelling) → put_all (some h) is ≡ xml k → ⊥
unfolding put_all put
never-xml h [] k p = let z : ◌≡◌ {A = ℕ} 0 1 = cc in omega arith
never-xml h (entry kind s n ∷ is) k p = either-xml (entry_test h (length s) n) (with_entry h kind s n) is k (never-xml (with_entry h kind s n) is k) p
never-xml h (pair key value ∷ is) k p = either-xml (pair_test h (length (key ++ value))) (with_pair h key value) is k (never-xml (with_pair h key value) is k) p

taken : (t : Bool) (w : Held) (is : List Item) {k : Held} → put_all (cond t (some w) none) is ≡ some k → (t ≡ true) × (put_all (some w) is ≡ some k)
taken true w is e = (refl, e)
taken false w is e = absurd (never is e)

pub kept-room : (h : Held) (is : List Item) {k : Held} → Room h [] → put_all (some h) is ≡ some k → Room h is
unfolding put_all put
kept-room h [] r e = r
kept-room h (entry kind s n ∷ is) r e =
    let t = taken (entry_test h (length s) n) (with_entry h kind s n) is e in
    entry-room h kind s n is (kept-room (with_entry h kind s n) is (passed_entry h kind s n r t.0) t.1)
kept-room h (pair key value ∷ is) r e =
    let t = taken (pair_test h (length (key ++ value))) (with_pair h key value) is e in
    pair-room h key value is (kept-room (with_pair h key value) is (passed-pair h key value r t.0) t.1)
