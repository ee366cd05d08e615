-- What merging leaves is a layout, and holds the merged report. Assumes nothing.
use Prim.Native.Nat.{ℕ, ◌+◌, ◌*◌, ◌-◌, ◌≤◌}
use mathlib.Core.Path.{◌≡◌, refl, sym, ap, ap₂, subst, ◌∙◌}
use mathlib.Core.Bool.{true}
use mathlib.Core.List.{List, [], ◌∷◌, ◌++◌, map, append_assoc, append-nil}
use mathlib.Core.Option.{some}
use lib.ListN.{length, drop, length-append}
use Rattle.tree_merge.proofs.of_area.Laying.{laid-zeros}
use Rattle.tree_merge.specs.of_area.Area.{zeros, laid}
use Rattle.tree_merge.specs.of_utf8.Characters.{joined}
use Rattle.tree_merge.specs.of_schema.Schema.{report}
use Rattle.tree_merge.specs.of_schema.Texts.{stored_in, record_at, sound}
use Rattle.tree_merge.specs.of_schema.Elements.{report_fields}
use Rattle.tree_merge.specs.of_schema.Elements as named
use Rattle.tree_merge.specs.of_tree_report.Report.{TestSuite, Report}
use Rattle.tree_merge.specs.of_tree_report.Fields.{live, is_suite}
use Rattle.tree_merge.specs.of_tree_report.Layout.{nothing, opened, used_words, used_text, all_zero, filled, good_text, all_good, good_order, records_of, layout}
use Rattle.tree_merge.specs.of_tree_report.ReportOf.{only, branches, suite_of, report_from, report_of}
use Rattle.tree_merge.proofs.of_tree_report.EncodeAreas.{records-of, zeros-behind}
use Rattle.tree_merge.proofs.of_tree_report.EncodeLists.{both, Each, more, each_append, each_on, only-all}
use Rattle.tree_merge.proofs.of_tree_report.EncodeText.{take-area, filled-texts, good-texts}
use Rattle.tree_merge.specs.Moved.{texts_in, moved_from}
use Rattle.merge_claims.specs.inside.Pairs.{Pairs, ended, next}
use Rattle.merge_claims.specs.inside.Alike.{Like, Alike}
use Rattle.merge_claims.specs.inside.Stands.{Clean, Stands, Held}
use Rattle.merge_claims.proofs.Order.{order_append, starts-suite, order-report, order-like}
use Rattle.merge_claims.proofs.Branches.{branches-append}
use Rattle.merge_claims.proofs.Showing.{suites-shown}
use Rattle.merge_claims.proofs.Texts.{clean-both}
use Rattle.merge_claims.proofs.Records.{all-clean, all_held, all_alike, held-good, held_whole}
use Rattle.merge_claims.proofs.Head.{head-shown, head-held, head-report}

map-join : {A B : Type 0} (f : A → B) (xs ys : List A) → map f (xs ++ ys) ≡ map f xs ++ map f ys
map-join f [] ys = refl
map-join f (x ∷ xs) ys = ap (λ l. f x ∷ l) (map-join f xs ys)

likes : {t u : List ℕ} {rs ss : List (List ℕ)} → Pairs (Alike t u) rs ss → Pairs Like rs ss
likes ended = ended
likes (next h hs) = next h.like (likes hs)

-- ---- the records below one tree's report, copied: s are its texts, t and z behind them
pub record Source : Type 0 where
  pub area : List ℕ
  pub texts : List ℕ
  pub behind : List ℕ
  pub parts : texts ++ behind ≡ area
  pub clean : Clean texts
  pub below : List (List ℕ)
  pub held : Each (Held texts) below
  pub order : good_order (opened 1 0) below ≡ true

abbrev pub Copy : (a : Source) (u y : List ℕ) (fill : ℕ) (s : List ℕ) → Type 0
Copy a u y fill s = Stands u fill (texts_in s a.below) → Each (Held u) (moved_from s fill a.below) × Pairs (Alike s (u ++ y)) a.below (moved_from s fill a.below)

copy : (a : Source) (u y : List ℕ) (fill : ℕ) → Copy a u y fill a.area
copy a u y fill =
    subst (Copy a u y fill) a.parts
    (λ s. (all_held a.texts a.behind u y a.clean fill a.held s, all_alike a.texts a.behind u y a.clean fill a.held s))

pub source-clean : (a : Source) → Clean (texts_in a.area a.below)
source-clean a = subst (λ (s : List ℕ). Clean (texts_in s a.below)) a.parts (all-clean a.texts a.behind a.clean a.held)

-- ---- two trees and the report's record before them
module _ (a b : Source) (m : Report) (s : sound report (report_fields m) ≡ true) (c : Clean (stored_in report (report_fields m))) where
  abbrev pub top : List ℕ
  top = stored_in report (report_fields m)

  abbrev pub first_texts : List ℕ
  first_texts = texts_in a.area a.below

  abbrev pub second_texts : List ℕ
  second_texts = texts_in b.area b.below

  abbrev pub all_texts : List ℕ
  all_texts = top ++ (first_texts ++ second_texts)

  abbrev pub first_records : List (List ℕ)
  first_records = moved_from a.area (length top) a.below

  abbrev pub second_records : List (List ℕ)
  second_records = moved_from b.area (length top + length first_texts) b.below

  abbrev pub head : List ℕ
  head = record_at 1 0 report (report_fields m)

  abbrev pub all_records : List (List ℕ)
  all_records = (head ∷ []) ++ (first_records ++ second_records)

  rest-clean : Clean (first_texts ++ second_texts)
  rest-clean = clean-both first_texts second_texts (source-clean a) (source-clean b)

  all-texts-clean : Clean all_texts
  all-texts-clean = clean-both top (first_texts ++ second_texts) c rest-clean

  head-stands : Stands all_texts 0 top
  head-stands = record { before = []; after = first_texts ++ second_texts; whole = refl; start = refl; clean = rest-clean }

  first-stands : Stands all_texts (length top) first_texts
  first-stands = record { before = top; after = second_texts; whole = refl; start = refl; clean = source-clean b }

  second-stands : Stands all_texts (length top + length first_texts) second_texts
  second-stands = record {
    before = top ++ first_texts;
    after = [];
    whole = sym (append_assoc top first_texts second_texts) ∙ ap (λ (l : List ℕ). (top ++ first_texts) ++ l) (sym (append-nil second_texts));
    start = length-append top first_texts;
    clean = (refl, refl);
  }

  first-copy : (y : List ℕ) → Each (Held all_texts) first_records × Pairs (Alike a.area (all_texts ++ y)) a.below first_records
  first-copy y = copy a all_texts y (length top) first-stands

  second-copy : (y : List ℕ) → Each (Held all_texts) second_records × Pairs (Alike b.area (all_texts ++ y)) b.below second_records
  second-copy y = copy b all_texts y (length top + length first_texts) second-stands

  each-held : Each (Held all_texts) all_records
  each-held = more (head-held m s all_texts head-stands) (each_append (first-copy []).0 (second-copy []).0)

  second-order : good_order (opened 1 0) second_records ≡ true
  second-order = sym (order-like (opened 1 0) (likes (second-copy []).1)) ∙ b.order

  order : good_order nothing all_records ≡ true
  order =
      order-report head (first_records ++ second_records) (head-report m s all_texts head-stands)
      ∙ order_append (opened 1 0) first_records second_records (sym (order-like (opened 1 0) (likes (first-copy []).1)) ∙ a.order) second-order

  -- the suites of one, then of the other
  suites : (y : List ℕ) → map (suite_of (all_texts ++ y)) (branches is_suite (first_records ++ second_records))
      ≡ map (suite_of a.area) (branches is_suite a.below) ++ map (suite_of b.area) (branches is_suite b.below)
  suites y =
      let f = suite_of (all_texts ++ y) in
      ap (map f) (branches-append is_suite first_records second_records (starts-suite (each_on (λ r h. h.alive) (second-copy []).0) second-order))
      ∙ map-join f (branches is_suite first_records) (branches is_suite second_records)
      ∙ sym (ap₂ (λ (p q : List TestSuite). p ++ q) (suites-shown a.area (all_texts ++ y) (first-copy y).1) (suites-shown b.area (all_texts ++ y) (second-copy y).1))

  module _ (n k : ℕ) (limit : length all_records ≤ 65536) (room : length all_records * 32 ≤ n) (text-limit : length all_texts ≤ 16777216) (text-room : length all_texts ≤ k) where
    abbrev words : List ℕ
    words = laid (zeros n) (joined all_records)

    abbrev text : List ℕ
    text = laid (zeros k) all_texts

    records : records_of words ≡ all_records
    records = records-of (held_whole each-held) n limit room

    used : (j : ℕ) × (used_text text ≡ all_texts ++ zeros j)
    used =
        let p = take-area all_texts (k - length all_texts) 16777216 text-limit in
        (p.0, ap used_text (laid-zeros k all_texts text-room) ∙ p.1)

    pub left-layout : layout words text ≡ true
    unfolding layout
    left-layout =
        let j = used.0 in
        both (ap good_text used.1 ∙ good-texts all_texts j all-texts-clean.0 all-texts-clean.1)
        (both (ap₂ all_good (ap filled used.1 ∙ filled-texts all_texts j all-texts-clean.1) records ∙ held-good each-held)
        (both (ap (good_order nothing) records ∙ order)
        (ap (λ (rs : List (List ℕ)). all_zero (drop (length rs * 32) (used_words words))) records ∙ zeros-behind (held_whole each-held) n limit room)))

    -- none is dead
    pub left-records : only live (records_of words) ≡ records_of words
    left-records = ap (only live) records ∙ only-all live (each_on (λ r h. h.alive) each-held) ∙ sym records

    pub left-report : m.suites ≡ map (suite_of a.area) (branches is_suite a.below) ++ map (suite_of b.area) (branches is_suite b.below) → report_of words text ≡ some m
    unfolding report_of
    left-report e =
        let j = used.0 in
        let f = head-shown m s all_texts head-stands (zeros j) in
        let g = suites (zeros j) ∙ sym e in
        ap₂ (λ (t : List ℕ) (rs : List (List ℕ)). report_from t (only live rs)) used.1 records
        ∙ ap (report_from (all_texts ++ zeros j)) (only-all live (each_on (λ r h. h.alive) each-held))
        ∙ (λ i. some (named.report_of (f i) (g i)))
