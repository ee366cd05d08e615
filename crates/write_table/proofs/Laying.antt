-- The areas behind all events are the laid-out table, with zeros behind it. Assumes nothing.
use Prim.Native.Nat.{ℕ, ◌*◌, ◌/◌, min}
use mathlib.Core.Path.{◌≡◌, refl, sym, ap, ◌∙◌}
use mathlib.Core.List.{List, []}
use mathlib.Core.Bool.{Bool, true, false, ◌&&◌, true≢false}
use native.Mathlib.Omega.{arith}
use borrow.Author.Tests.{le-leb, leb-true}
use lib.Dec.{leb}
use lib.ListN.{length, length-replicate}
use Rattle.write_spelled.specs.of_area.Area.{zeros, laid}
use Rattle.write_spelled.specs.of_area.Limits.{most_entries, most_bytes}
use Rattle.write_spelled.specs.of_table.Event.{Event}
use Rattle.write_table.specs.Laid.{items_of, laid_bytes, Table, laid_out, fits}
use Rattle.write_table.specs.inside.Putting.{Held, Kept, none, some, xml, fresh, put_all}
use Rattle.write_table.proofs.Filling.{entries, pairs, length-events, length-attributes, after, same-held}
use Rattle.write_table.proofs.Rooms.{Room, both, backed_items, room-kept, kept-room, never-xml}

-- the table at the front of zeroed areas of so many words, words and bytes
abbrev pub holding : Table → ℕ → ℕ → ℕ → Held
holding t e a b =
    record {
      events = length t.events / 5;
      attributes = length t.attributes / 5;
      bytes = length t.bytes;
      event_area = laid (zeros e) t.events;
      attribute_area = laid (zeros a) t.attributes;
      byte_area = laid (zeros b) t.bytes;
    }

module _ (es : List Event) where
  events-size : length (laid_out es).events ≡ entries (items_of es) * 5
  unfolding laid_out
  events-size = length-events 0 0 (items_of es)

  attributes-size : length (laid_out es).attributes ≡ pairs (items_of es) * 5
  unfolding laid_out
  attributes-size = length-attributes 0 (items_of es)

  bytes-size : length (laid_out es).bytes ≡ length (laid_bytes (items_of es))
  unfolding laid_out
  bytes-size = refl

  -- five words for each event and for each attribute
  pub words-five : length (laid_out es).events / 5 * 5 ≡ length (laid_out es).events
  words-five = let h = events-size in omega arith

  -- a table's attribute words are whole entries, so that counting entries loses none
  pub attributes-five : length (laid_out es).attributes / 5 * 5 ≡ length (laid_out es).attributes
  attributes-five = let h = attributes-size in omega arith

  module _ (e a b : ℕ) where
    after-all : after (fresh e a b) (items_of es) ≡ holding (laid_out es) e a b
    unfolding laid_out
    after-all =
        let x = length-events 0 0 (items_of es) in
        let y = length-attributes 0 (items_of es) in
        same-held (after (fresh e a b) (items_of es)) (holding (laid_out es) e a b) (omega arith) (omega arith) (omega arith) refl refl refl

    room_fits : Room (fresh e a b) (items_of es) → fits (laid_out es) e a b ≡ true
    room_fits r =
        let x = events-size in
        let y = attributes-size in
        let z = bytes-size in
        let l = length-replicate {A = ℕ} e 0 in
        let m = length-replicate {A = ℕ} a 0 in
        let n = length-replicate {A = ℕ} b 0 in
        rw (
          le-leb (length (laid_out es).events) (min e (most_entries * 5)) (omega arith),
          le-leb (length (laid_out es).attributes) (min a (most_entries * 5)) (omega arith),
          le-leb (length (laid_out es).bytes) (min b most_bytes) (omega arith),
        ) refl

    fits-room : fits (laid_out es) e a b ≡ true → Room (fresh e a b) (items_of es)
    fits-room f =
        let p = both (leb (length (laid_out es).events) (min e (most_entries * 5)))
        (leb (length (laid_out es).attributes) (min a (most_entries * 5)) && leb (length (laid_out es).bytes) (min b most_bytes)) f in
        let q = both (leb (length (laid_out es).attributes) (min a (most_entries * 5))) (leb (length (laid_out es).bytes) (min b most_bytes)) p.1 in
        let u = leb-true (length (laid_out es).events) (min e (most_entries * 5)) p.0 in
        let v = leb-true (length (laid_out es).attributes) (min a (most_entries * 5)) q.0 in
        let w = leb-true (length (laid_out es).bytes) (min b most_bytes) q.1 in
        let x = events-size in
        let y = attributes-size in
        let z = bytes-size in
        let l = length-replicate {A = ℕ} e 0 in
        let m = length-replicate {A = ℕ} a 0 in
        let n = length-replicate {A = ℕ} b 0 in
        record { events_in = omega arith; events_most = omega arith; attributes_in = omega arith; attributes_most = omega arith; bytes_in = omega arith; bytes_most = omega arith }

    room-none : Room (fresh e a b) []
    unfolding entries pairs laid_bytes
    room-none = record { events_in = omega arith; events_most = omega arith; attributes_in = omega arith; attributes_most = omega arith; bytes_in = omega arith; bytes_most = omega arith }

    pub put-laid : fits (laid_out es) e a b ≡ true → put_all (some (fresh e a b)) (items_of es) ≡ some (holding (laid_out es) e a b)
    put-laid f = room-kept (fresh e a b) (items_of es) (backed_items es) (fits-room f) ∙ ap some after-all

    kept-fits : (h : Held) → put_all (some (fresh e a b)) (items_of es) ≡ some h → fits (laid_out es) e a b ≡ true
    kept-fits h p = room_fits (kept-room (fresh e a b) (items_of es) room-none p)

    pub put-none : fits (laid_out es) e a b ≡ false → put_all (some (fresh e a b)) (items_of es) ≡ none
    put-none f = go (put_all (some (fresh e a b)) (items_of es)) refl
      where
        go : (k : Kept) → put_all (some (fresh e a b)) (items_of es) ≡ k → put_all (some (fresh e a b)) (items_of es) ≡ none
        go none p = p
        go (some h) p = absurd (true≢false (sym (kept-fits h p) ∙ f))
        go (xml h) p = absurd (never-xml (fresh e a b) (items_of es) h p)

    -- the same from the answer
    pub put_some : (h : Held) → put_all (some (fresh e a b)) (items_of es) ≡ some h → (fits (laid_out es) e a b ≡ true) × (h ≡ holding (laid_out es) e a b)
    put_some h p =
        let f = kept-fits h p in
        let q = put-laid f in
        (f, cc)

    -- where the items weren't put, the table doesn't fit: the code's refusal is the definition's
    pub none-fits : put_all (some (fresh e a b)) (items_of es) ≡ none → fits (laid_out es) e a b ≡ false
    none-fits p = go (fits (laid_out es) e a b) refl
      where
        go : (t : Bool) → fits (laid_out es) e a b ≡ t → fits (laid_out es) e a b ≡ false
        go true f = let q = put-laid f in let z : ◌≡◌ {A = ℕ} 0 1 = cc in absurd (omega arith)
        go false f = f
