-- What a property or extra's record reads off the areas and leaves in them. Assumes nothing.
use Prim.Native.Nat.{ℕ, ◌+◌, ◌-◌, ◌*◌, ◌≤◌}
use mathlib.Core.Bool.{Bool, true, false, cond}
use mathlib.Core.List.{List, [], ◌∷◌, ◌++◌, append_assoc, append-nil}
use mathlib.Core.Path.{◌≡◌, refl, sym, ap, ap₂, subst, ◌∙◌}
use native.Mathlib.Omega.{arith}
use borrow.Author.Tests.{lt-ltb, le-ltb}
use lib.Dec.{ltb, lit≤}
use lib.ListN.{length, set, take, drop, length-append, length-map, length-take, length-drop}
use Rattle.tree_placed.specs.of_utf8.Utf8.{utf8}
use Rattle.tree_placed.specs.of_text_filter.Filter.{unfiltered}
use Rattle.tree_placed.specs.of_tree_put.Put.{put_pair, put_text}
use Rattle.tree_placed.specs.of_tree_report.Report.{Text, Pair, Report}
use Rattle.tree_placed.specs.of_tree_report.inside.Cells.{written, is_given, is_some, flags_of, Row, pair_row_of, every, fits_row, rows_of}
use Rattle.tree_placed.proofs.of_tree_report.EncodeLists.{both}
use Rattle.tree_placed.specs.inside.Placed.{Placed, record_of_it, rows_in, StandsAt, InTexts}
use Rattle.tree_placed.specs.inside.Changed.{blank_placed, with_out, out_text}
use Rattle.tree_placed.proofs.Putting.{record-length}
use Rattle.tree_placed.proofs.Fronts.{pair-fronts}
use Rattle.tree_placed.proofs.Changing.{blank-in, out-in}
use Rattle.build_draft.specs.declared.Builder.{Builder}
use Rattle.build_draft.specs.Draft.{Draft, room_for, kind_at, on_record_of, last_of}
use Rattle.build_draft.specs.Parts.{put_at, is_main_kind, place_for, may_stand_behind, exchanged}
use Rattle.build_draft.specs.Calls.{marks}
use Rattle.build_report.specs.Stands.{Marked, Stored, Stand}
use Rattle.build_report.proofs.Holding.{Holding, holding-marks, holding-set, holding-exchanged, holding-more, one_more_record}
use Rattle.build_report.proofs.Storing.{holding, rows-many, stored, divide, parted, kind-there, fits-there, fits-inserted, Becomes, rows_append, held-set}
use Rattle.build_report.proofs.Becoming.{first-becomes, out-becomes, becomes_on, becomes-then}
use Rattle.build_report.proofs.Fitting.{out-fits, whole-fits}
use Rattle.build_report.proofs.PairPlaces.{Tail, no_main, one-main, last_kind, Cut}
use Rattle.build_report.proofs.PairRows.{moved, New, Old}

-- ---- the last of some rows
record LastRow (xs : List Row) : Type 0 where
  front : List Row
  row : Row
  is : xs ≡ front ++ (row ∷ [])
  last : last_kind xs ≡ row.kind

last_row : (xs : List Row) → 1 ≤ length xs → LastRow xs
last_row [] l = absurd (omega arith)
last_row (x ∷ []) l = record { front = []; row = x; is = refl; last = refl }
last_row (x ∷ (y ∷ ys)) l =
    let d = last_row (y ∷ ys) (omega arith) in
    record { front = x ∷ d.front; row = d.row; is = ap (λ (l : List Row). x ∷ l) d.is; last = d.last }

module _ {b : Builder} {words text : List ℕ} {r : Report} (s : Stored b words text r) where
  kind-before : (before back : List Row) → rows_of r ≡ before ++ back → 1 ≤ length before → kind_at words (length before - 1) ≡ last_kind before
  kind-before before back e l =
      let d = last_row before l in
      let h : rows_of r ≡ d.front ++ (d.row ∷ back) = e ∙ ap (λ (l : List Row). l ++ back) d.is ∙ append_assoc d.front (d.row ∷ []) back in
      let n : length before ≡ length d.front + 1 = ap length d.is ∙ length-append d.front (d.row ∷ []) in
      kind-there (parted d.front d.row back (holding s) (s.rows ∙ h)) (omega arith) ∙ sym d.last

  -- ---- the number that a new property or extra gets
  abbrev draft : Draft
  draft = record { builder = b; words = words; text = text }

  place-in : (before back : List Row) → Tail back → rows_of r ≡ before ++ back → 1 ≤ length before → is_main_kind (last_kind before) ≡ false → place_for draft ≡ length before
  place-in before [] no_main e l m =
      let n : b.records ≡ length before = sym (rows-many s) ∙ ap length (e ∙ append-nil before) in
      ap (λ (k : ℕ). cond (is_main_kind (kind_at words (k - 1))) (k - 1) k) n
      ∙ ap (λ (k : ℕ). cond (is_main_kind k) (length before - 1) (length before)) (kind-before before [] e l)
      ∙ ap (λ (t : Bool). cond t (length before - 1) (length before)) m
  place-in before (x ∷ (_ ∷ _)) x9 e l m = elim x9 [ ]
  place-in before (x ∷ []) (one-main h) e l m =
      let n : b.records ≡ length before + 1 = sym (rows-many s) ∙ ap length e ∙ length-append before (x ∷ []) in
      let k : b.records - 1 ≡ length before = omega arith in
      ap (λ (k : ℕ). cond (is_main_kind (kind_at words k)) k b.records) k
      ∙ ap (λ (k : ℕ). cond (is_main_kind k) (length before) b.records) (kind-there (parted before x [] (holding s) (s.rows ∙ e)) refl)
      ∙ ap (λ (t : Bool). cond t (length before) b.records) h

  pub place_is : {before back : List Row} → Cut (rows_of r) before back → place_for draft ≡ length before
  place_is {before} {back} c = place-in before back c.tail c.is c.any c.not-main

  -- the test of what stands before it
  pub may-stand : (κ : ℕ) {before back : List Row} → Cut (rows_of r) before back
      → may_stand_behind κ (kind_at words (place_for draft - 1)) ≡ may_stand_behind κ (last_kind before)
  may-stand κ {before} {back} c = ap (λ (k : ℕ). may_stand_behind κ (kind_at words (k - 1))) (place_is c) ∙ ap (may_stand_behind κ) (kind-before before back c.is c.any)

-- ---- a text area that keeps its length
pub put-length : (x : ℕ) (v text : List ℕ) → x + length v ≤ length text → length (put_at x v text) ≡ length text
put-length x v text l =
    let a : length (take x text ++ (v ++ drop (x + length v) text)) ≡ length (take x text) + length (v ++ drop (x + length v) text) = length-append (take x text) (v ++ drop (x + length v) text) in
    let b : length (v ++ drop (x + length v) text) ≡ length v + length (drop (x + length v) text) = length-append v (drop (x + length v) text) in
    let c = length-take x text in
    let d = length-drop (x + length v) text in
    omega arith

-- ---- the rows of pairs
pub pair_fits : (κ : ℕ) (p : Pair) → utf8 p.key ≡ true → unfiltered p.key ≡ true → utf8 p.value ≡ true → unfiltered p.value ≡ true → fits_row (pair_row_of κ p) ≡ true
pair_fits κ p a b c d = whole-fits (record {
  first = both a b;
  out = both c d;
  err = refl;
  second = refl;
  third = refl;
  fourth = refl;
  fifth = refl;
  sixth = refl;
  seventh = refl;
  timestamp = refl;
  time = refl;
})

-- a new value, where there was one
put-value : (p : Placed) (x : ℕ) (v : Text) → is_given p.row.out ≡ true → put_pair 4 x (length v) (record_of_it p) ≡ record_of_it (out_text x v p)
unfolding record_of_it
put-value p x v e =
    ap (λ (t : Bool). set (record_of_it (out_text x v p)) 1
    (flags_of (is_given p.row.first ∷ t ∷ is_given p.row.err ∷ is_some p.row.timestamp ∷ is_some p.row.time
    ∷ is_given p.row.second ∷ is_given p.row.third ∷ is_given p.row.fourth ∷ is_given p.row.sixth ∷ p.row.is_flaky ∷ is_given p.row.seventh ∷ []))) e

value-becomes : {texts : List ℕ} {κ : ℕ} {q : Pair} (p : Placed) → p.row ≡ pair_row_of κ q → InTexts texts p → (x : ℕ) (v : Text) → StandsAt texts x (written v)
    → Becomes (put_pair 4 x (length v)) texts p (pair_row_of κ (record { key = q.key; value = v }))
value-becomes {κ = κ} {q = q} p e h x v s = record {
  after = out_text x v p;
  put = λ z. pair-fronts (record_of_it p) z (record-length p) 4 x (length v) (lit≤ tt) ∙ ap (λ (l : List ℕ). l ++ z) (put-value p x v (ap (λ (r : Row). is_given r.out) e));
  row_is = ap (λ (r : Row). with_out (written v) r) e;
  standing = out-in h x v s;
}

-- a new value in the old place
pub value-stored : {b : Builder} {words text texts : List ℕ} {ps : List Placed} {r r' : Report} {κ i : ℕ} {p : Pair}
    → Holding b words text ps texts → rows_in ps ≡ rows_of r → every fits_row (rows_of r) ≡ true
    → (o : Old κ p i r r') → utf8 p.value ≡ true → unfiltered p.value ≡ true → (x : ℕ) → StandsAt texts x (written p.value)
    → Stored b (on_record_of i (put_pair 4 x (length p.value)) words) text r'
value-stored {κ = κ} {p = p} h e f o u c x s =
    let t = o.spot in
    let k : fits_row (pair_row_of κ o.old) ≡ true = fits-there t.front (pair_row_of κ o.old) t.back (sym (ap (every fits_row) t.here) ∙ f) in
    held-set (put_pair 4 x (length p.value)) h e f t (out-fits (pair_row_of κ o.old) k (written p.value) (both u c)) (λ q i j. value-becomes q i j x p.value s)

-- ---- a new record
-- the blank record with both texts
pair-becomes : {texts : List ℕ} (κ : ℕ) (p : Pair) (x y : ℕ) → StandsAt texts x (written p.key) → StandsAt texts y (written p.value)
    → Becomes (λ r. put_text 4 1 y (length p.value) (put_text 2 0 x (length p.key) r)) texts (blank_placed κ) (pair_row_of κ p)
pair-becomes {texts} κ p x y s t =
    let a = first-becomes (blank-in texts κ) x p.key s in
    becomes_on (becomes-then a (out-becomes a.standing y p.value t)) (ap (with_out (written p.value)) a.row_is)

record TwoPlaced (ps : List Placed) (x y : Row) : Type 0 where
  first : Placed
  second : Placed
  both_are : ps ≡ first ∷ (second ∷ [])
  first-row : first.row ≡ x
  second-row : second.row ≡ y

two-placed : (ps : List Placed) (x y : Row) → rows_in ps ≡ x ∷ (y ∷ []) → TwoPlaced ps x y
two-placed [] x y e = let z : ◌≡◌ {A = ℕ} 0 1 = cc in absurd (omega arith)
two-placed (a ∷ []) x y e = let z : ◌≡◌ {A = ℕ} 0 1 = cc in absurd (omega arith)
two-placed (a ∷ (b ∷ [])) x y e = record { first = a; second = b; both_are = refl; first-row = cc; second-row = cc }
two-placed (a ∷ (b ∷ (c ∷ ps))) x y e = let z : ◌≡◌ {A = ℕ} 0 1 = cc in absurd (omega arith)

module _ {b : Builder} {words text texts : List ℕ} {ps : List Placed} {r r' : Report} {κ : ℕ} {p : Pair} (h : Holding b words text ps texts) (e : rows_in ps ≡ rows_of r)
    (f : every fits_row (rows_of r) ≡ true) (n : New κ p r r') (k : fits_row (pair_row_of κ p) ≡ true) (x y : ℕ)
    (s : StandsAt texts x (written p.key)) (t : StandsAt texts y (written p.value)) (l : ltb b.records (room_for words) ≡ true) where
  abbrev new_words : List ℕ
  new_words = on_record_of (last_of (one_more_record b)) (λ r. put_text 4 1 y (length p.value) (put_text 2 0 x (length p.key) r)) (set words (b.records * 32) κ)

  held_new : (q : Placed) × ((q.row ≡ pair_row_of κ p) × Holding (one_more_record b) new_words text (ps ++ (q ∷ [])) texts)
  held_new =
      let c = pair-becomes κ p x y s t in
      let m : b.records ≡ length ps = h.records in (
        c.after,
        (
          c.row_is,
          holding-set ps (blank_placed κ) [] {i = last_of (one_more_record b)} (omega arith) (holding-more κ l h)
              (λ r. put_text 4 1 y (length p.value) (put_text 2 0 x (length p.key) r)) c.put c.standing,
        ),
      )

  rows_then : (q : Placed) → q.row ≡ pair_row_of κ p → rows_in (ps ++ (q ∷ [])) ≡ n.before ++ (n.back ++ (pair_row_of κ p ∷ []))
  rows_then q i =
      rows_append ps (q ∷ []) ∙ ap₂ (λ (l : List Row) (x : Row). l ++ (x ∷ [])) (e ∙ n.cut.is) i ∙ append_assoc n.before n.back (pair_row_of κ p ∷ [])

  fits-then : every fits_row (rows_of r') ≡ true
  fits-then = ap (every fits_row) n.there ∙ fits-inserted n.before (pair_row_of κ p) n.back (sym (ap (every fits_row) n.cut.is) ∙ f) k

  -- the record stands behind all others, or before the case's main
  abbrev at_end : Draft
  at_end = record { builder = one_more_record b; words = new_words; text = text }

  abbrev before_main : Draft
  before_main = record { builder = marks b.report b.suite b.case (length n.before + 1) (one_more_record b); words = exchanged (length n.before) new_words; text = text }

  many-before : b.records ≡ length n.before + length n.back
  many-before = h.records ∙ sym (length-map ps (λ (p : Placed). p.row)) ∙ ap length (e ∙ n.cut.is) ∙ length-append n.before n.back

  main-then : {m : ℕ} (back : List Row) → n.back ≡ back → m ≡ moved back (length n.before + 1) b.main → m ≡ moved n.back (length n.before + 1) b.main
  main-then back z w = w ∙ sym (ap (λ (l : List Row). moved l (length n.before + 1) b.main) z)

  stands-end : Marked b r → n.back ≡ [] → Stand r' at_end
  stands-end m z = record {
    stored = stored r' held_new.1.1
        (rows_then held_new.0 held_new.1.0 ∙ ap (λ (l : List Row). n.before ++ (l ++ (pair_row_of κ p ∷ []))) z
        ∙ sym (n.there ∙ ap (λ (l : List Row). n.before ++ (pair_row_of κ p ∷ l)) z))
        fits-then;
    marks = n.marks m refl refl refl (main-then [] z refl);
  }

  stands-before : (x : Row) → Marked b r → n.back ≡ x ∷ [] → Stand r' before_main
  stands-before x m z =
      let q : Placed = held_new.0 in
      let row : Row = pair_row_of κ p in
      let d = divide (ps ++ (q ∷ [])) n.before (x ∷ (row ∷ [])) (rows_then q held_new.1.0 ∙ ap (λ (l : List Row). n.before ++ (l ++ (row ∷ []))) z) in
      let w = two-placed d.behind x row d.back-rows in
      let i : length d.before ≡ length n.before = sym (length-map d.before (λ (p : Placed). p.row)) ∙ ap length d.front-rows in
      let g : Holding (one_more_record b) new_words text (d.before ++ (w.first ∷ (w.second ∷ []))) texts =
      subst (λ (l : List Placed). Holding (one_more_record b) new_words text l texts) (d.whole ∙ ap (λ (l : List Placed). d.before ++ l) w.both_are) held_new.1.1 in
      record {
        stored = stored r' (holding-marks (holding-exchanged d.before w.first w.second [] i g) refl refl)
            (rows_append d.before (w.second ∷ (w.first ∷ []))
            ∙ (λ j. d.front-rows j ++ (w.second-row j ∷ (w.first-row j ∷ [])))
            ∙ sym (n.there ∙ ap (λ (l : List Row). n.before ++ (row ∷ l)) z))
            fits-then;
        marks = n.marks m refl refl refl (main-then (x ∷ []) z refl);
      }

  stands-in : (back : List Row) → Tail back → n.back ≡ back → Marked b r → Stand r' (cond (ltb (length n.before) (last_of (one_more_record b))) before_main at_end)
  stands-in [] no_main z m =
      let i : b.records ≡ length n.before + 0 = many-before ∙ ap (λ (l : List Row). length n.before + length l) z in
      subst (λ (t : Bool). Stand r' (cond t before_main at_end)) (sym (le-ltb (length n.before) (last_of (one_more_record b)) (omega arith))) (stands-end m z)
  stands-in (x ∷ (_ ∷ _)) x9 z m = elim x9 [ ]
  stands-in (x ∷ []) (one-main k) z m =
      let i : b.records ≡ length n.before + 1 = many-before ∙ ap (λ (l : List Row). length n.before + length l) z in
      subst (λ (t : Bool). Stand r' (cond t before_main at_end)) (sym (lt-ltb (length n.before) (last_of (one_more_record b)) (omega arith))) (stands-before x m z)

  pub new-stands : Marked b r → Stand r' (cond (ltb (length n.before) (last_of (one_more_record b))) before_main at_end)
  new-stands m = stands-in n.back n.cut.tail refl m
