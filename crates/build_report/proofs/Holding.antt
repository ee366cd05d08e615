-- Areas that hold placed records and texts, and a builder that knows how many: what each store makes of them. Assumes nothing.
use Prim.Native.Nat.{ℕ, suc, ◌+◌, ◌*◌, ◌/◌, ◌≤◌, ◌<◌, min}
use mathlib.Core.Bool.{true, not}
use mathlib.Core.List.{List, [], ◌∷◌, ◌++◌, map, map-append}
use mathlib.Core.Path.{◌≡◌, refl, sym, ap, ap₂, subst, ◌∙◌}
use native.Mathlib.Omega.{arith}
use borrow.Author.Tests.{leb-true, ltb-true}
use lib.Dec.{leb, ltb}
use lib.ListN.{length, set, length-append, length-map}
use Rattle.tree_placed.specs.of_area.Area.{zeros, laid}
use Rattle.tree_placed.specs.of_utf8.Characters.{joined}
use Rattle.tree_placed.specs.of_utf8.Utf8.{utf8}
use Rattle.tree_placed.proofs.of_utf8.Rules.{utf8_append}
use Rattle.tree_placed.specs.of_text_filter.Filter.{dropped, unfiltered}
use Rattle.tree_placed.proofs.of_tree_report.EncodeLists.{both, and_left, and_right, Each, done, more, each_append}
use Rattle.tree_placed.specs.inside.Placed.{Placed, record_of_it, records_in, InTexts}
use Rattle.tree_placed.specs.inside.Changed.{with_kind, on_row, blank_placed}
use Rattle.tree_placed.proofs.Putting.{record-length, put-blank, put-kind}
use Rattle.tree_placed.proofs.Growing.{each-in_texts-more}
use Rattle.tree_placed.proofs.Changing.{blank-in, kind-in}
use Rattle.build_draft.specs.declared.Builder.{Builder}
use Rattle.build_draft.specs.declared.FlakyOrRerun.{FlakyOrRerun}
use Rattle.build_draft.specs.Draft.{room_for, bytes_for, on_record_of}
use Rattle.build_draft.specs.Parts.{put_at, exchanged, turned_kind, turned, turn_runs}
use Rattle.build_report.proofs.Areas.{Sized, area-length, on_record}
use Rattle.build_report.proofs.AreasMore.{taken, kept, exchanged-records}
use Rattle.build_report.proofs.AreasRuns.{turned-runs}

-- ---- lists
module _ {A : Type 0} {P : A → Type 0} where
  pub each-front : (front rs : List A) → Each P (front ++ rs) → Each P front
  each-front [] rs h = done
  each-front (x ∷ front) rs (more h hs) = more h (each-front front rs hs)

  pub each_back : (front rs : List A) → Each P (front ++ rs) → Each P rs
  each_back [] rs h = h
  each_back (x ∷ front) rs (more h hs) = each_back front rs hs

  pub each-head : {x : A} {rs : List A} → Each P (x ∷ rs) → P x
  each-head (more h hs) = h

  pub each_tail : {x : A} {rs : List A} → Each P (x ∷ rs) → Each P rs
  each_tail (more h hs) = hs

  -- one in place of another
  pub each-other : (front : List A) (x : A) (back : List A) → Each P (front ++ (x ∷ back)) → {y : A} → P y → Each P (front ++ (y ∷ back))
  each-other front x back h p = each_append (each-front front (x ∷ back) h) (more p (each_tail (each_back front (x ∷ back) h)))

pub records-sized : (ps : List Placed) → Sized (records_in ps)
records-sized [] = done
records-sized (p ∷ ps) = more (record-length p) (records-sized ps)

pub records-append : (ps qs : List Placed) → records_in (ps ++ qs) ≡ records_in ps ++ records_in qs
records-append ps qs = map-append record_of_it ps qs

pub clean-append : (a b : List ℕ) → unfiltered a ≡ true → unfiltered b ≡ true → unfiltered (a ++ b) ≡ true
clean-append [] b e h = h
clean-append (x ∷ a) b e h = both (and_left (not (dropped x)) (unfiltered a) e) (clean-append a b (and_right (not (dropped x)) (unfiltered a) e) h)

-- ---- the areas
pub record Holding (b : Builder) (words text : List ℕ) (ps : List Placed) (texts : List ℕ) : Type 0 where
  pub standing : Each (InTexts texts) ps
  pub valid : utf8 texts ≡ true
  pub clean : unfiltered texts ≡ true
  pub words_are : words ≡ laid (zeros (length words)) (joined (records_in ps))
  pub text-is : text ≡ laid (zeros (length text)) texts
  pub records : b.records ≡ length ps
  pub bytes : b.bytes ≡ length texts
  pub room : length ps ≤ room_for words
  pub text-room : length texts ≤ bytes_for text

-- the marks don't matter
pub holding-marks : {b b' : Builder} {words text texts : List ℕ} {ps : List Placed} → Holding b words text ps texts → b'.records ≡ b.records → b'.bytes ≡ b.bytes → Holding b' words text ps texts
holding-marks h e f = record {
  standing = h.standing;
  valid = h.valid;
  clean = h.clean;
  words_are = h.words_are;
  text-is = h.text-is;
  records = e ∙ h.records;
  bytes = f ∙ h.bytes;
  room = h.room;
  text-room = h.text-room;
}

-- a part of an area's room
pub records-fit : (ps : List Placed) (n : ℕ) → length ps ≤ min (n / 32) 65536 → length (records_in ps) * 32 ≤ n
records-fit ps n h = let e = length-map ps record_of_it in omega arith

-- other records, as many, in the same area
holding-other : {b : Builder} {words words' text texts : List ℕ} {ps qs : List Placed} → Holding b words text ps texts → words' ≡ laid (zeros (length words)) (joined (records_in qs))
    → length qs ≡ length ps → Each (InTexts texts) qs → Holding b words' text qs texts
holding-other {words = words} {words' = words'} {ps = ps} {qs = qs} h e n s =
    let l : length words' ≡ length words = ap length e ∙ area-length (length words) (joined (records_in qs)) in
    let m = h.room in
    record {
      standing = s;
      valid = h.valid;
      clean = h.clean;
      words_are = e ∙ ap (λ (k : ℕ). laid (zeros k) (joined (records_in qs))) (sym l);
      text-is = h.text-is;
      records = h.records ∙ sym n;
      bytes = h.bytes;
      room = rw (n, l) m;
      text-room = h.text-room;
    }

-- ---- records before a place, and from it on
pub records-at : (front : List Placed) {i : ℕ} → length front ≡ i → length (records_in front) ≡ i
records-at front e = length-map front record_of_it ∙ e

pub split-sized : (front back : List Placed) → Sized (records_in front ++ records_in back)
split-sized front back = each_append (records-sized front) (records-sized back)

module _ {b : Builder} {words text texts : List ℕ} (front back : List Placed) (h : Holding b words text (front ++ back) texts) where
  pub split-words : words ≡ laid (zeros (length words)) (joined (records_in front ++ records_in back))
  split-words = h.words_are ∙ ap (λ (rs : List (List ℕ)). laid (zeros (length words)) (joined rs)) (records-append front back)

  pub split-room : length (records_in front ++ records_in back) * 32 ≤ length words
  split-room = subst (λ (rs : List (List ℕ)). length rs * 32 ≤ length words) (records-append front back) (records-fit (front ++ back) (length words) h.room)

  -- records from a place on become as many others
  split-other : {words' : List ℕ} (qs : List Placed) → words' ≡ laid (zeros (length words)) (joined (records_in front ++ records_in qs)) → length qs ≡ length back → Each (InTexts texts) qs
      → Holding b words' text (front ++ qs) texts
  split-other qs e n s =
      let k : length (front ++ qs) ≡ length front + length qs = length-append front qs in
      let m : length (front ++ back) ≡ length front + length back = length-append front back in
      holding-other h (e ∙ sym (ap (λ (rs : List (List ℕ)). laid (zeros (length words)) (joined rs)) (records-append front qs))) (omega arith) (each_append (each-front front back h.standing) s)

-- ---- a store into a record
module _ {b : Builder} {words text texts : List ℕ} (front : List Placed) (p : Placed) (back : List Placed) {i : ℕ} (at : length front ≡ i)
    (h : Holding b words text (front ++ (p ∷ back)) texts) where
  pub holding-set : {q : Placed} (g : List ℕ → List ℕ) → ((z : List ℕ) → g (record_of_it p ++ z) ≡ record_of_it q ++ z) → InTexts texts q → Holding b (on_record_of i g words) text (front ++ (q ∷ back)) texts
  holding-set {q} g e s =
      split-other front (p ∷ back) h (q ∷ back)
      (ap (on_record_of i g) (split-words front (p ∷ back) h)
      ∙ on_record (length words) (records_in front) (record_of_it p) (records_in back) (records-at front at)
      (split-sized front (p ∷ back)) (split-room front (p ∷ back) h) (record_of_it q) (record-length q) g e)
      refl (more s (each_tail (each_back front (p ∷ back) h.standing)))

-- ---- two records exchanged
pub holding-exchanged : {b : Builder} {words text texts : List ℕ} (front : List Placed) (p q : Placed) (back : List Placed) {i : ℕ} → length front ≡ i
    → Holding b words text (front ++ (p ∷ (q ∷ back))) texts → Holding b (exchanged i words) text (front ++ (q ∷ (p ∷ back))) texts
holding-exchanged {words = words} front p q back {i} at h =
    let s = each_back front (p ∷ (q ∷ back)) h.standing in
    split-other front (p ∷ (q ∷ back)) h (q ∷ (p ∷ back))
    (ap (exchanged i) (split-words front (p ∷ (q ∷ back)) h)
    ∙ exchanged-records (length words) (records_in front) (record_of_it p) (record_of_it q) (records_in back) (records-at front at) (split-sized front (p ∷ (q ∷ back))) (split-room front (p ∷ (q ∷ back)) h))
    refl (more (each-head (each_tail s)) (more (each-head s) (each_tail (each_tail s))))

-- ---- runs turned to the other family
abbrev pub turned_placed : FlakyOrRerun → Placed → Placed
turned_placed f p = on_row (with_kind (turned_kind f p.row.kind)) p

turned-record : (f : FlakyOrRerun) (p : Placed) → turned f (record_of_it p) ≡ record_of_it (turned_placed f p)
unfolding record_of_it
turned-record f p = put-kind p (turned_kind f p.row.kind)

turned-records : (f : FlakyOrRerun) (ps back : List Placed) → map (turned f) (records_in ps) ++ records_in back ≡ records_in (map (turned_placed f) ps ++ back)
turned-records f [] back = refl
turned-records f (p ∷ ps) back = ap₂ (λ (x : List ℕ) (rs : List (List ℕ)). x ∷ rs) (turned-record f p) (turned-records f ps back)

turned-in : {texts : List ℕ} (f : FlakyOrRerun) (ps back : List Placed) → Each (InTexts texts) (ps ++ back) → Each (InTexts texts) (map (turned_placed f) ps ++ back)
turned-in f [] back h = h
turned-in f (p ∷ ps) back (more h hs) = more (kind-in h (turned_kind f p.row.kind)) (turned-in f ps back hs)

turned-many : (f : FlakyOrRerun) (ps back : List Placed) → length (map (turned_placed f) ps ++ back) ≡ length (ps ++ back)
turned-many f [] back = refl
turned-many f (p ∷ ps) back = ap suc (turned-many f ps back)

pub holding-turned : {b : Builder} {words text texts : List ℕ} (f : FlakyOrRerun) (front ps back : List Placed) {i n : ℕ} → length front ≡ i → length ps ≡ n
    → Holding b words text (front ++ (ps ++ back)) texts → Holding b (turn_runs f i n words) text (front ++ (map (turned_placed f) ps ++ back)) texts
holding-turned {words = words} f front ps back {i} {n} at k h =
    let rs : List (List ℕ) = records_in front ++ (records_in ps ++ records_in back) in
    let e : records_in front ++ records_in (ps ++ back) ≡ rs = ap (λ (l : List (List ℕ)). records_in front ++ l) (records-append ps back) in
    split-other front (ps ++ back) h (map (turned_placed f) ps ++ back)
    (ap₂ (λ (m : ℕ) (l : List ℕ). turn_runs f i m l) (sym (records-at ps k)) (split-words front (ps ++ back) h ∙ ap (λ (l : List (List ℕ)). laid (zeros (length words)) (joined l)) e)
    ∙ turned-runs (length words) f (records_in front) (records_in ps) (records_in back) (records-at front at)
    (each_append (records-sized front) (each_append (records-sized ps) (records-sized back)))
    (subst (λ (l : List (List ℕ)). length l * 32 ≤ length words) e (split-room front (ps ++ back) h))
    ∙ ap (λ (l : List (List ℕ)). laid (zeros (length words)) (joined (records_in front ++ l))) (turned-records f ps back))
    (turned-many f ps back) (turned-in f ps back (each_back front (ps ++ back) h.standing))

-- ---- a record more
abbrev pub one_more_record : Builder → Builder
one_more_record b = record { records = b.records + 1; bytes = b.bytes; report = b.report; suite = b.suite; case = b.case; main = b.main }

pub holding-more : {b : Builder} {words text texts : List ℕ} {ps : List Placed} (κ : ℕ) → ltb b.records (room_for words) ≡ true → Holding b words text ps texts
    → Holding (one_more_record b) (set words (b.records * 32) κ) text (ps ++ (blank_placed κ ∷ [])) texts
holding-more {b} {words} {text} {texts} {ps} κ l h =
    let rs : List (List ℕ) = records_in ps in
    let n : length rs ≡ b.records = length-map ps record_of_it ∙ sym h.records in
    let m : b.records < room_for words = ltb-true b.records (room_for words) l in
    let e : set words (b.records * 32) κ ≡ laid (zeros (length words)) (joined (records_in (ps ++ (blank_placed κ ∷ [])))) =
    ap₂ (λ (w : List ℕ) (k : ℕ). set w (k * 32) κ) h.words_are (sym n)
    ∙ taken (length words) rs κ (records-sized ps) (omega arith)
    ∙ ap (λ (x : List ℕ). laid (zeros (length words)) (joined (rs ++ (x ∷ [])))) (put-blank κ)
    ∙ ap (λ (l : List (List ℕ)). laid (zeros (length words)) (joined l)) (sym (records-append ps (blank_placed κ ∷ []))) in
    let k : length (set words (b.records * 32) κ) ≡ length words = ap length e ∙ area-length (length words) (joined (records_in (ps ++ (blank_placed κ ∷ [])))) in
    let j : length (ps ++ (blank_placed κ ∷ [])) ≡ length ps + 1 = length-append ps (blank_placed κ ∷ []) in
    let r : b.records ≡ length ps = h.records in
    record {
      standing = each_append h.standing (more (blank-in texts κ) done);
      valid = h.valid;
      clean = h.clean;
      words_are = e ∙ ap (λ (k : ℕ). laid (zeros k) (joined (records_in (ps ++ (blank_placed κ ∷ []))))) (sym k);
      text-is = h.text-is;
      records = ap (λ (k : ℕ). k + 1) r ∙ sym j;
      bytes = h.bytes;
      room = rw (j, k) (omega arith);
      text-room = h.text-room;
    }

-- ---- a text more
abbrev pub more_bytes : ℕ → Builder → Builder
more_bytes n b = record { records = b.records; bytes = b.bytes + n; report = b.report; suite = b.suite; case = b.case; main = b.main }

pub holding-text : {b : Builder} {words text texts : List ℕ} {ps : List Placed} (v : List ℕ) → utf8 v ≡ true → unfiltered v ≡ true → leb (b.bytes + length v) (bytes_for text) ≡ true
    → Holding b words text ps texts → Holding (more_bytes (length v) b) words (put_at b.bytes v text) ps (texts ++ v)
holding-text {b} {words} {text} {texts} {ps} v u c l h =
    let n : b.bytes ≡ length texts = h.bytes in
    let m : b.bytes + length v ≤ bytes_for text = leb-true (b.bytes + length v) (bytes_for text) l in
    let j : length (texts ++ v) ≡ length texts + length v = length-append texts v in
    let e : put_at b.bytes v text ≡ laid (zeros (length text)) (texts ++ v) =
    ap₂ (λ (k : ℕ) (t : List ℕ). put_at k v t) n h.text-is ∙ kept (length text) texts v (omega arith) in
    let k : length (put_at b.bytes v text) ≡ length text = ap length e ∙ area-length (length text) (texts ++ v) in
    record {
      standing = each-in_texts-more texts v u h.standing;
      valid = utf8_append texts v h.valid ∙ u;
      clean = clean-append texts v h.clean c;
      words_are = h.words_are;
      text-is = e ∙ ap (λ (k : ℕ). laid (zeros k) (texts ++ v)) (sym k);
      records = h.records;
      bytes = ap (λ (k : ℕ). k + length v) n ∙ sym j;
      room = h.room;
      text-room = rw (j, k) (omega arith);
    }
