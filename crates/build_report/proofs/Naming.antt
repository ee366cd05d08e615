-- A record that was taken last and gets its name. Assumes nothing.
use Prim.Native.Nat.{ℕ, ◌+◌, ◌-◌, ◌/◌, min}
use mathlib.Core.Bool.{true}
use mathlib.Core.List.{List, [], ◌∷◌, ◌++◌, append-nil}
use mathlib.Core.Path.{◌≡◌, refl, sym, ap, subst, ◌∙◌}
use native.Mathlib.Omega.{arith}
use lib.Dec.{leb, lit≤}
use lib.ListN.{length, length-append, length-map, length-replicate}
use Rattle.tree_placed.specs.of_area.Area.{zeros, laid}
use Rattle.tree_placed.proofs.of_area.Laying.{laid-zeros}
use Rattle.tree_placed.specs.of_utf8.Characters.{joined}
use Rattle.tree_placed.specs.of_utf8.Utf8.{utf8}
use Rattle.tree_placed.specs.of_text_filter.Filter.{unfiltered}
use Rattle.tree_placed.specs.of_tree_put.Put.{put_text}
use Rattle.tree_placed.specs.of_tree_report.Report.{Text}
use Rattle.tree_placed.specs.of_tree_report.inside.Cells.{Row, written, every, fits_row}
use Rattle.tree_placed.proofs.of_tree_report.EncodeLists.{Each, done}
use Rattle.tree_placed.specs.inside.Placed.{Placed, record_of_it, records_in, StandsAt, InTexts}
use Rattle.tree_placed.specs.inside.Changed.{first_text_of}
use Rattle.tree_placed.proofs.Putting.{record-length, put_first}
use Rattle.tree_placed.proofs.Fronts.{text-fronts}
use Rattle.tree_placed.proofs.Changing.{first-in}
use Rattle.tree_placed.proofs.Growing.{text-new}
use Rattle.build_draft.specs.declared.Builder.{Builder}
use Rattle.build_draft.specs.Draft.{no_builder, room_for, bytes_for, on_record_of, last_of, is_record}
use Rattle.build_draft.specs.Parts.{put_at}
use Rattle.build_report.proofs.Holding.{Holding, each_back, each-head, holding-set, holding-text, more_bytes}
use Rattle.build_report.proofs.Reading.{here-held}
use Rattle.build_report.proofs.Storing.{fits-inserted}
use Rattle.build_report.proofs.Summing.{length-held}

-- areas of zeros, without a record
pub empty-held : (words bytes : ℕ) → Holding no_builder (zeros words) (zeros bytes) [] []
empty-held words bytes = record {
  standing = done;
  valid = refl;
  clean = refl;
  words_are = same words;
  text-is = same bytes;
  records = refl;
  bytes = refl;
  room = omega arith;
  text-room = omega arith;
}
  where
    same : (n : ℕ) → zeros n ≡ laid (zeros (length (zeros n))) []
    same n =
        let e : n - 0 ≡ n = omega arith in
        sym (ap (λ (k : ℕ). laid (zeros k) []) (length-replicate {A = ℕ} n 0) ∙ laid-zeros n [] (omega arith) ∙ ap zeros e)

-- the same words, as records of other rows
pub same-records : {b : Builder} {words text texts : List ℕ} {ps qs : List Placed} → Holding b words text ps texts
    → records_in ps ≡ records_in qs → Each (InTexts texts) qs → Holding b words text qs texts
same-records {words = words} {ps = ps} {qs = qs} h e s =
    let n : length ps ≡ length qs = sym (length-map ps record_of_it) ∙ ap length e ∙ length-map qs record_of_it in
    let m = h.room in
    record {
      standing = s;
      valid = h.valid;
      clean = h.clean;
      words_are = h.words_are ∙ ap (λ (rs : List (List ℕ)). laid (zeros (length words)) (joined rs)) e;
      text-is = h.text-is;
      records = h.records ∙ n;
      bytes = h.bytes;
      room = rw n at m;
      text-room = h.text-room;
    }

-- a row more at the end fits
pub fits-end : (rows : List Row) (row : Row) → every fits_row rows ≡ true → fits_row row ≡ true → every fits_row (rows ++ (row ∷ [])) ≡ true
fits-end rows row e f = fits-inserted rows row [] (ap (every fits_row) (append-nil rows) ∙ e) f

module _ {b : Builder} {words text texts : List ℕ} (ps : List Placed) (p : Placed) (h : Holding b words text (ps ++ (p ∷ [])) texts) where
  last-at : length ps ≡ last_of b
  last-at = let n : length (ps ++ (p ∷ [])) ≡ length ps + 1 = length-append ps (p ∷ []) in let e = h.records in omega arith

  -- the last record is there
  pub last-record : is_record b words (last_of b) ≡ true
  last-record = here-held ps p [] last-at h

  module _ (v : Text) (u : utf8 v ≡ true) (c : unfiltered v ≡ true) (l : leb (b.bytes + length v) (bytes_for text) ≡ true) where
    -- its name stands behind all other texts
    pub name-stands : StandsAt (texts ++ v) b.bytes (written v)
    name-stands = subst (λ (x : ℕ). StandsAt (texts ++ v) x (written v)) (sym h.bytes) (text-new texts v u)

    put-name : (z : List ℕ) → put_text 2 0 b.bytes (length v) (record_of_it p ++ z) ≡ record_of_it (first_text_of b.bytes v p) ++ z
    put-name z = text-fronts (record_of_it p) z (record-length p) 2 0 b.bytes (length v) (lit≤ tt) ∙ ap (λ (s : List ℕ). s ++ z) (put_first p b.bytes v)

    pub named-held : Holding (more_bytes (length v) b) (on_record_of (last_of b) (put_text 2 0 b.bytes (length v)) words) (put_at b.bytes v text) (ps ++ (first_text_of b.bytes v p ∷ [])) (texts ++ v)
    named-held =
        let k = holding-text v u c l h in
        holding-set ps p [] last-at k (put_text 2 0 b.bytes (length v)) put-name (first-in (each-head (each_back ps (p ∷ []) k.standing)) b.bytes v name-stands)

    pub named-room : room_for (on_record_of (last_of b) (put_text 2 0 b.bytes (length v)) words) ≡ room_for words
    named-room = ap (λ (n : ℕ). min (n / 32) 65536) (length-held ps p [] last-at h (first_text_of b.bytes v p) (put_text 2 0 b.bytes (length v)) put-name)
