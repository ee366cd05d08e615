-- What a builder's tests read off its areas. Assumes nothing.
use Prim.Native.Nat.{ℕ, suc, ◌+◌, ◌-◌, ◌*◌, ◌/◌, ◌%◌, ◌≤◌, ◌<◌}
use mathlib.Core.Bool.{Bool, true, false, ◌&&◌}
use mathlib.Core.List.{List, [], ◌∷◌, ◌++◌, map}
use mathlib.Core.Path.{◌≡◌, refl, sym, ap, ap₂, subst, ◌∙◌}
use native.Mathlib.Omega.{arith}
use borrow.Author.Tests.{lt-ltb, le-ltb, le-leb}
use lib.Dec.{eqb}
use lib.ListN.{length, get_or, take, drop, length-append, length-map}
use Rattle.tree_placed.specs.of_area.Area.{zeros, laid}
use Rattle.tree_placed.proofs.of_area.Laying.{laid-zeros}
use Rattle.tree_placed.specs.of_refusal.Refusal.{nowhere}
use Rattle.tree_placed.specs.of_utf8.Characters.{joined}
use Rattle.tree_placed.specs.of_tree_record.Record.{has_bit, text_at}
use Rattle.tree_placed.proofs.of_tree_record.Bits.{mask_power}
use Rattle.tree_placed.specs.of_tree_report.Report.{Text}
use Rattle.tree_placed.specs.of_tree_report.inside.Cells.{Cell, written, first_word, second_word, presence}
use Rattle.tree_placed.proofs.of_tree_report.EncodeCells.{bit-flag}
use Rattle.tree_placed.proofs.of_tree_report.EncodeLists.{Each, done, more, each_append}
use Rattle.tree_placed.specs.inside.Placed.{Placed, record_of_it, records_in, StandsAt, InTexts}
use Rattle.tree_placed.proofs.Growing.{stands_read}
use Rattle.build_draft.specs.declared.Builder.{Builder}
use Rattle.build_draft.specs.Draft.{room_for, bytes_for, is_record, kind_at, is_of}
use Rattle.build_draft.specs.Parts.{counts_in, counts_at, key_place}
use Rattle.build_report.proofs.AreasMore.{kind-here, bit-here, counts-here, kind-none}
use Rattle.build_report.proofs.AreasRuns.{place_in, key-place}
use Rattle.build_report.proofs.Holding.{Holding, records-sized, records-fit, records-append, records-at, split-sized, split-words, split-room, each-front, each_back}

-- ---- numbers of records
module _ {b : Builder} {words text texts : List ℕ} {ps : List Placed} (h : Holding b words text ps texts) where
  pub is_held : (i : ℕ) → i < length ps → is_record b words i ≡ true
  unfolding is_record
  is_held i l =
      let e : b.records ≡ length ps = h.records in
      let m : length ps ≤ room_for words = h.room in
      rw (lt-ltb i b.records (omega arith), le-leb b.records (room_for words) (omega arith)) refl

  pub not-held : (i : ℕ) → length ps ≤ i → is_record b words i ≡ false
  unfolding is_record
  not-held i l =
      let e : b.records ≡ length ps = h.records in
      rw (le-ltb i b.records (omega arith)) refl

  pub kind-beyond : (i : ℕ) → length ps ≤ i → kind_at words i ≡ 0
  kind-beyond i l =
      let e = length-map ps record_of_it in
      ap (λ (w : List ℕ). kind_at w i) h.words_are ∙ kind-none (length words) (records_in ps) i (records-sized ps) (records-fit ps (length words) h.room) (omega arith)

  -- no record has the number that stands for none
  pub few-held : length ps < nowhere
  few-held = let m : length ps ≤ room_for words = h.room in omega arith

-- ---- what stands in a record
module _ {b : Builder} {words text texts : List ℕ} (front : List Placed) (p : Placed) (back : List Placed) {i : ℕ} (at : length front ≡ i)
    (h : Holding b words text (front ++ (p ∷ back)) texts) where
  pub here-held : is_record b words i ≡ true
  here-held = let e : length (front ++ (p ∷ back)) ≡ length front + suc (length back) = length-append front (p ∷ back) in is_held h i (omega arith)

  pub kind-held : kind_at words i ≡ p.row.kind
  unfolding record_of_it
  kind-held =
      ap (λ (w : List ℕ). kind_at w i) (split-words front (p ∷ back) h)
      ∙ kind-here (length words) (records_in front) (record_of_it p) (records_in back) (records-at front at) (split-sized front (p ∷ back)) (split-room front (p ∷ back) h)

  pub is-of-held : (k : ℕ) → is_of b words i k ≡ eqb p.row.kind k
  unfolding is_of
  is-of-held k = ap₂ (λ (t : Bool) (j : ℕ). t && eqb j k) here-held kind-held

  pub bit-held : (k : ℕ) → k ≤ 31 → has_bit k (drop (i * 32) words) ≡ get_or (presence p.row) k false
  unfolding record_of_it
  bit-held k l =
      ap (λ (w : List ℕ). has_bit k (drop (i * 32) w)) (split-words front (p ∷ back) h)
      ∙ bit-here (length words) (records_in front) (record_of_it p) (records_in back) (records-at front at) (split-sized front (p ∷ back)) (split-room front (p ∷ back) h) k
      ∙ ap (λ (m : ℕ). eqb (get_or (record_of_it p) 1 0 / m % 2) 1) (mask_power k l) ∙ bit-flag k (presence p.row)

  pub counts-held : counts_at words i ≡ counts_in (record_of_it p)
  counts-held =
      ap (λ (w : List ℕ). counts_at w i) (split-words front (p ∷ back) h)
      ∙ counts-here (length words) (records_in front) (record_of_it p) (records_in back) (records-at front at) (split-sized front (p ∷ back)) (split-room front (p ∷ back) h)

-- ---- keys
-- the text in the first cell of a record
pub first-text : (texts z : List ℕ) (p : Placed) (t : Text) → InTexts texts p → p.row.first ≡ written t → text_at (texts ++ z) (record_of_it p) 2 ≡ t
unfolding record_of_it
first-text texts z p t h e =
    let s : StandsAt texts p.places.first (written t) = subst (λ (c : Cell). StandsAt texts p.places.first c) e h.first in
    ap (λ (c : Cell). take (second_word c) (drop (first_word p.places.first c) (texts ++ z))) e ∙ stands_read texts p.places.first t s z

-- records with these texts in their first cells
pub data Keyed : List Placed → List Text → Type 0 where
  none : Keyed [] []
  key : {p : Placed} {t : Text} {ps : List Placed} {ts : List Text} → p.row.first ≡ written t → Keyed ps ts → Keyed (p ∷ ps) (t ∷ ts)

keys-read : (texts z : List ℕ) {ps : List Placed} {ts : List Text} → Each (InTexts texts) ps → Keyed ps ts → map (λ (x : List ℕ). text_at (texts ++ z) x 2) (records_in ps) ≡ ts
keys-read texts z done none = refl
keys-read texts z (more h hs) (key {p} {t} e k) = ap₂ (λ (x : Text) (xs : List Text). x ∷ xs) (first-text texts z p t h e) (keys-read texts z hs k)

pub key-held : {b : Builder} {words text texts : List ℕ} (front ps back : List Placed) {ts : List Text} {i n : ℕ} → length front ≡ i → length ps ≡ n → Keyed ps ts
    → Holding b words text (front ++ (ps ++ back)) texts → (s : List ℕ) → key_place text words s i n ≡ i + place_in s ts
key-held {words = words} {text = text} {texts = texts} front ps back {ts} {i} {n} at k ks h s =
    let rs : List (List ℕ) = records_in front ++ (records_in ps ++ records_in back) in
    let e : records_in front ++ records_in (ps ++ back) ≡ rs = ap (λ (l : List (List ℕ)). records_in front ++ l) (records-append ps back) in
    let z : List ℕ = zeros (length text - length texts) in
    let m : length texts ≤ bytes_for text = h.text-room in
    let t : text ≡ texts ++ z = h.text-is ∙ laid-zeros (length text) texts (omega arith) in
    ap₂ (λ (w : List ℕ) (m : ℕ). key_place text w s i m) (split-words front (ps ++ back) h ∙ ap (λ (l : List (List ℕ)). laid (zeros (length words)) (joined l)) e) (sym (records-at ps k))
    ∙ key-place (length words) text s (records_in front) (records_in ps) (records_in back) (records-at front at)
    (each_append (records-sized front) (each_append (records-sized ps) (records-sized back)))
    (subst (λ (l : List (List ℕ)). length l * 32 ≤ length words) e (split-room front (ps ++ back) h))
    ∙ ap (λ (w : List ℕ). i + place_in s (map (λ (x : List ℕ). text_at w x 2) (records_in ps))) t
    ∙ ap (λ (l : List Text). i + place_in s l) (keys-read texts z (each-front ps back (each_back front (ps ++ back) h.standing)) ks)
