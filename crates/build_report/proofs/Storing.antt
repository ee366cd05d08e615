-- Steps from a report that the areas hold to another. Assumes nothing.
use Prim.Native.Nat.{ℕ, ◌+◌, ◌≤◌, ◌<◌}
use mathlib.Core.Bool.{Bool, true, false}
use mathlib.Core.List.{List, [], ◌∷◌, ◌++◌, map-append, append-nil}
use mathlib.Core.Path.{◌≡◌, refl, sym, ap, ap₂, subst, ◌∙◌}
use native.Mathlib.Omega.{arith}
use borrow.Author.Tests.{lt-ltb, le-ltb, leb-true, leb-false}
use lib.Dec.{leb, ltb, eqb}
use lib.ListN.{length, length-map}
use Rattle.tree_placed.specs.of_refusal.Refusal.{nowhere}
use Rattle.tree_placed.specs.of_utf8.Utf8.{utf8}
use Rattle.tree_placed.specs.of_text_filter.Filter.{unfiltered}
use Rattle.tree_placed.specs.of_tree_report.Report.{Report}
use Rattle.tree_placed.specs.of_tree_report.inside.Cells.{Row, written, every, fits_row, rows_of}
use Rattle.tree_placed.proofs.of_tree_report.EncodeLists.{both, and_left, and_right}
use Rattle.tree_placed.specs.inside.Placed.{Placed, record_of_it, rows_in, StandsAt, InTexts}
use Rattle.tree_placed.proofs.Growing.{text-new}
use Rattle.build_draft.specs.declared.Builder.{Builder}
use Rattle.build_draft.specs.Draft.{last_of, room_for, bytes_for, on_record_of, is_record, kind_at, is_of}
use Rattle.build_draft.specs.Parts.{put_at}
use Rattle.build_report.specs.Stands.{Stored}
use Rattle.build_report.proofs.SpotTypes.{Spot}
use Rattle.build_report.proofs.Holding.{Holding, each_back, each-head, holding-set, holding-text, one_more_record, more_bytes}
use Rattle.build_report.proofs.Reading.{not-held, kind-beyond, few-held, here-held, kind-held, is-of-held}

-- ---- a report that is stored, as placed records
module _ {b : Builder} {words text : List ℕ} {r : Report} (s : Stored b words text r) where
  pub holding : Holding b words text s.placed s.texts
  holding = record {
    standing = s.standing;
    valid = s.valid;
    clean = s.clean;
    words_are = s.words_are;
    text-is = s.text-is;
    records = s.records;
    bytes = s.bytes;
    room = s.room;
    text-room = s.text-room;
  }

  pub placed-many : length s.placed ≡ length (rows_of r)
  placed-many = sym (length-map s.placed (λ (p : Placed). p.row)) ∙ ap length s.rows

  pub rows-many : length (rows_of r) ≡ b.records
  rows-many = sym (s.records ∙ placed-many)

  -- a record more fits: the call's test and the claim's
  pub room-test : ltb b.records (room_for words) ≡ leb (length (rows_of r) + 1) (room_for words)
  room-test = go (leb (length (rows_of r) + 1) (room_for words)) refl
    where
      go : (t : Bool) → leb (length (rows_of r) + 1) (room_for words) ≡ t → ltb b.records (room_for words) ≡ t
      go true e = let n = rows-many in let l = leb-true (length (rows_of r) + 1) (room_for words) e in lt-ltb b.records (room_for words) (omega arith)
      go false e = let n = rows-many in let l = leb-false (length (rows_of r) + 1) (room_for words) e in le-ltb b.records (room_for words) (omega arith)

  pub kind-outside : (i : ℕ) → length (rows_of r) ≤ i → kind_at words i ≡ 0
  kind-outside i l = let e = placed-many in kind-beyond holding i (omega arith)

  pub not-record : (i : ℕ) → length (rows_of r) ≤ i → is_record b words i ≡ false
  not-record i l = let e = placed-many in not-held holding i (omega arith)

  pub few-rows : length (rows_of r) < nowhere
  few-rows = let e = placed-many in let l = few-held holding in omega arith

  pub kind-nowhere : kind_at words nowhere ≡ 0
  kind-nowhere = let l = few-rows in kind-outside nowhere (omega arith)

  pub nowhere-record : is_record b words nowhere ≡ false
  nowhere-record = let l = few-rows in not-record nowhere (omega arith)

pub stored : {b : Builder} {words text texts : List ℕ} {ps : List Placed} (r : Report) → Holding b words text ps texts → rows_in ps ≡ rows_of r → every fits_row (rows_of r) ≡ true → Stored b words text r
stored {texts = texts} {ps = ps} r h e f = record {
  placed = ps;
  texts = texts;
  rows = e;
  standing = h.standing;
  sound = f;
  valid = h.valid;
  clean = h.clean;
  words_are = h.words_are;
  text-is = h.text-is;
  records = h.records;
  bytes = h.bytes;
  room = h.room;
  text-room = h.text-room;
}

-- the marks don't matter
pub stored-marks : {b b' : Builder} {words text : List ℕ} {r : Report} → Stored b words text r → b'.records ≡ b.records → b'.bytes ≡ b.bytes → Stored b' words text r
stored-marks s e f = record {
  placed = s.placed;
  texts = s.texts;
  rows = s.rows;
  standing = s.standing;
  sound = s.sound;
  valid = s.valid;
  clean = s.clean;
  words_are = s.words_are;
  text-is = s.text-is;
  records = e ∙ s.records;
  bytes = f ∙ s.bytes;
  room = s.room;
  text-room = s.text-room;
}

-- ---- rows in two parts: so are their records
pub record Divided (ps : List Placed) (front back : List Row) : Type 0 where
  pub before : List Placed
  pub behind : List Placed
  pub whole : ps ≡ before ++ behind
  pub front-rows : rows_in before ≡ front
  pub back-rows : rows_in behind ≡ back

pub divide : (ps : List Placed) (front back : List Row) → rows_in ps ≡ front ++ back → Divided ps front back
divide ps [] back e = record { before = []; behind = ps; whole = refl; front-rows = refl; back-rows = e }
divide [] (row ∷ front) back e = let z : ◌≡◌ {A = ℕ} 0 1 = cc in absurd (omega arith)
divide (p ∷ ps) (row ∷ front) back e =
    let h : p.row ≡ row = cc in
    let t : rows_in ps ≡ front ++ back = cc in
    let d = divide ps front back t in
    record {
      before = p ∷ d.before;
      behind = d.behind;
      whole = ap (λ (l : List Placed). p ∷ l) d.whole;
      front-rows = ap₂ (λ (x : Row) (l : List Row). x ∷ l) h d.front-rows;
      back-rows = d.back-rows;
    }

-- ---- one row, and the record that holds it
pub record Parted (b : Builder) (words text texts : List ℕ) (front : List Row) (row : Row) (back : List Row) : Type 0 where
  pub before : List Placed
  pub here : Placed
  pub behind : List Placed
  pub held : Holding b words text (before ++ (here ∷ behind)) texts
  pub front-rows : rows_in before ≡ front
  pub row_is : here.row ≡ row
  pub back-rows : rows_in behind ≡ back

pub parted : {b : Builder} {words text texts : List ℕ} {ps : List Placed} (front : List Row) (row : Row) (back : List Row) → Holding b words text ps texts → rows_in ps ≡ front ++ (row ∷ back)
    → Parted b words text texts front row back
parted {b} {words} {text} {texts} {ps} front row back h e = let d = divide ps front (row ∷ back) e in go d.before d.behind d.whole d.front-rows d.back-rows
  where
    go : (f k : List Placed) → ps ≡ f ++ k → rows_in f ≡ front → rows_in k ≡ row ∷ back → Parted b words text texts front row back
    go f [] w x y = let z : ◌≡◌ {A = ℕ} 0 1 = cc in absurd (omega arith)
    go f (p ∷ k) w x y = record {
      before = f;
      here = p;
      behind = k;
      held = subst (λ (l : List Placed). Holding b words text l texts) w h;
      front-rows = x;
      row_is = cc;
      back-rows = cc;
    }

module _ {b : Builder} {words text texts : List ℕ} {front : List Row} {row : Row} {back : List Row} (d : Parted b words text texts front row back) {i : ℕ} (at : length front ≡ i) where
  pub before-many : length d.before ≡ i
  before-many = sym (length-map d.before (λ (p : Placed). p.row)) ∙ ap length d.front-rows ∙ at

  pub kind-there : kind_at words i ≡ row.kind
  kind-there = kind-held d.before d.here d.behind before-many d.held ∙ ap (λ (r : Row). r.kind) d.row_is

  pub record-there : is_record b words i ≡ true
  record-there = here-held d.before d.here d.behind before-many d.held

  pub is-of-there : (k : ℕ) → is_of b words i k ≡ eqb row.kind k
  is-of-there k = is-of-held d.before d.here d.behind before-many d.held k ∙ ap (λ (r : Row). eqb r.kind k) d.row_is

-- ---- rows that fit
pub fits-other : (front : List Row) (row row' : Row) (back : List Row) → every fits_row (front ++ (row ∷ back)) ≡ true → fits_row row' ≡ true → every fits_row (front ++ (row' ∷ back)) ≡ true
fits-other [] row row' back e f = both f (and_right (fits_row row) (every fits_row back) e)
fits-other (x ∷ front) row row' back e f =
    both (and_left (fits_row x) (every fits_row (front ++ (row ∷ back))) e) (fits-other front row row' back (and_right (fits_row x) (every fits_row (front ++ (row ∷ back))) e) f)

pub fits-inserted : (front : List Row) (row : Row) (back : List Row) → every fits_row (front ++ back) ≡ true → fits_row row ≡ true → every fits_row (front ++ (row ∷ back)) ≡ true
fits-inserted [] row back e f = both f e
fits-inserted (x ∷ front) row back e f =
    both (and_left (fits_row x) (every fits_row (front ++ back)) e) (fits-inserted front row back (and_right (fits_row x) (every fits_row (front ++ back)) e) f)

pub fits-there : (front : List Row) (row : Row) (back : List Row) → every fits_row (front ++ (row ∷ back)) ≡ true → fits_row row ≡ true
fits-there [] row back e = and_left (fits_row row) (every fits_row back) e
fits-there (x ∷ front) row back e = fits-there front row back (and_right (fits_row x) (every fits_row (front ++ (row ∷ back))) e)

-- ---- a store that makes a row of a record's row
pub record Becomes (g : List ℕ → List ℕ) (texts : List ℕ) (p : Placed) (row' : Row) : Type 0 where
  pub after : Placed
  pub put : (z : List ℕ) → g (record_of_it p ++ z) ≡ record_of_it after ++ z
  pub row_is : after.row ≡ row'
  pub standing : InTexts texts after

pub rows_append : (ps qs : List Placed) → rows_in (ps ++ qs) ≡ rows_in ps ++ rows_in qs
rows_append ps qs = map-append (λ (p : Placed). p.row) ps qs

-- one row becomes another
pub held-set : {b : Builder} {words text texts : List ℕ} {ps : List Placed} {r r' : Report} {i : ℕ} {row row' : Row} (g : List ℕ → List ℕ) → Holding b words text ps texts → rows_in ps ≡ rows_of r
    → every fits_row (rows_of r) ≡ true → Spot r i row r' row' → fits_row row' ≡ true → ((p : Placed) → p.row ≡ row → InTexts texts p → Becomes g texts p row') → Stored b (on_record_of i g words) text r'
held-set {b} {words} {text} {texts} {ps} {r} {r'} {i} {row} {row'} g h e f t k c =
    let d = parted t.front row t.back h (e ∙ t.here) in
    let n = before-many d t.at in
    let a = c d.here d.row_is (each-head (each_back d.before (d.here ∷ d.behind) d.held.standing)) in
    let w = holding-set d.before d.here d.behind n d.held g a.put a.standing in
    stored r' w
    (rows_append d.before (a.after ∷ d.behind)
    ∙ (λ j. d.front-rows j ++ (a.row_is j ∷ d.back-rows j)) ∙ sym t.there)
    (ap (every fits_row) t.there ∙ fits-other t.front row row' t.back (sym (ap (every fits_row) t.here) ∙ f) k)

module _ {b : Builder} {words text : List ℕ} {r r' : Report} {i : ℕ} {row row' : Row} (s : Stored b words text r) (t : Spot r i row r' row') where
  pub at-spot : Parted b words text s.texts t.front row t.back
  at-spot = parted t.front row t.back (holding s) (s.rows ∙ t.here)

  pub kind-at : kind_at words i ≡ row.kind
  kind-at = kind-there at-spot t.at

  pub record-at : is_record b words i ≡ true
  record-at = record-there at-spot t.at

  pub is-of-at : (k : ℕ) → is_of b words i k ≡ eqb row.kind k
  is-of-at k = is-of-there at-spot t.at k

  pub row_fits : fits_row row ≡ true
  row_fits = fits-there t.front row t.back (sym (ap (every fits_row) t.here) ∙ s.sound)

  pub stored-set : (g : List ℕ → List ℕ) → fits_row row' ≡ true → ((p : Placed) → p.row ≡ row → InTexts s.texts p → Becomes g s.texts p row') → Stored b (on_record_of i g words) text r'
  stored-set g k c = held-set g (holding s) s.rows s.sound t k c

  -- the same, behind a text that is kept for it
  pub stored-text : (v : List ℕ) → utf8 v ≡ true → unfiltered v ≡ true → leb (b.bytes + length v) (bytes_for text) ≡ true → (g : List ℕ → List ℕ) → fits_row row' ≡ true
      → ((p : Placed) → p.row ≡ row → InTexts (s.texts ++ v) p → StandsAt (s.texts ++ v) b.bytes (written v) → Becomes g (s.texts ++ v) p row')
      → Stored (more_bytes (length v) b) (on_record_of i g words) (put_at b.bytes v text) r'
  stored-text v u c l g k f =
      let n : StandsAt (s.texts ++ v) b.bytes (written v) = subst (λ (x : ℕ). StandsAt (s.texts ++ v) x (written v)) (sym s.bytes) (text-new s.texts v u) in
      held-set g (holding-text v u c l (holding s)) s.rows s.sound t k (λ p e i. f p e i n)

-- ---- a record more, at the end
pub stored_more : {b b' : Builder} {words words' text text' texts : List ℕ} {r r' : Report} {row : Row} (s : Stored b words text r) (q : Placed)
    → Holding b' words' text' (s.placed ++ (q ∷ [])) texts
    → q.row ≡ row → rows_of r' ≡ rows_of r ++ (row ∷ []) → fits_row row ≡ true → Stored b' words' text' r'
stored_more {r = r} {r' = r'} {row = row} s q h e t k =
    stored r' h (rows_append s.placed (q ∷ []) ∙ (λ j. s.rows j ++ (e j ∷ [])) ∙ sym t)
    (ap (every fits_row) t ∙ fits-inserted (rows_of r) row [] (ap (every fits_row) (append-nil (rows_of r)) ∙ s.sound) k)

pub last_taken : (b : Builder) → last_of (one_more_record b) ≡ b.records
last_taken b = omega arith
