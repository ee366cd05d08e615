-- Two trees as one, proved. Assumes nothing.
use Prim.Native.Nat.{ℕ, ◌+◌, ◌*◌, ◌/◌, ◌≤◌, min}
use mathlib.Core.Path.{◌≡◌, refl, sym, ap, ap₂, subst, ◌∙◌}
use mathlib.Core.Bool.{Bool, true, false}
use mathlib.Core.List.{List, ◌++◌, map}
use mathlib.Core.Logic.{◌⊎◌, ◌↔◌}
use mathlib.Core.Option.{Option, some}
use native.Mathlib.Omega.{arith}
use borrow.Author.Tests.{leb-true}
use lib.Dec.{leb}
use lib.ListN.{length, drop, length-append}
use Rattle.tree_merge.specs.of_area.Answer.{Answer, gives}
use Rattle.tree_merge.specs.of_area.Area.{zeros, laid}
use Rattle.tree_merge.specs.of_area.Limits.{most_records, most_bytes}
use Rattle.tree_merge.specs.of_refusal.Refusal.{Refused, Outcome, accepted, refused, late}
use Rattle.tree_merge.specs.of_refusal.declared.Cause.TheVariants as cause
use Rattle.tree_merge.specs.of_utf8.Characters.{joined}
use Rattle.tree_merge.specs.of_schema.Schema.{report}
use Rattle.tree_merge.specs.of_schema.Texts.{fields_of, stored_in, sound}
use Rattle.tree_merge.specs.of_schema.Elements.{report_fields}
use Rattle.tree_merge.specs.of_schema.Elements as named
use Rattle.tree_merge.specs.of_tree_report.Encode.{Encoding}
use Rattle.tree_merge.specs.of_tree_report.Report.{Report}
use Rattle.tree_merge.specs.of_tree_report.Fields.{live, is_suite}
use Rattle.tree_merge.specs.of_tree_report.Layout.{used_text, filled, records_of, layout}
use Rattle.tree_merge.specs.of_tree_report.ReportOf.{only, branches, suite_of, report_from, report_of}
use Rattle.merge_listing.specs.of_list_text.Listing.{render}
use Rattle.tree_merge.specs.Merged.{merged_report}
use Rattle.tree_merge.specs.Moved.{texts_in, moved_from}
use Rattle.tree_merge.specs.Answer.{both_by, merged_of, head_of, head_texts, below_report, merged_tree, if_any, counts_fit}
use Rattle.tree_merge.specs.Answer.{time_fits, limited, placed, merge_answer, outcome_of, left_for, records_left, text_left}
use Rattle.merge_claims.specs.Needs.{CountsPast, TimePast, records_needed, RecordsShort, bytes_needed, BytesShort, text_bytes}
use Rattle.merge_claims.specs.Merging.{Tree, Room, answer_of, left, zeroed, IsTree, Holds, Both, Listed, time_limit, Merging}
use Rattle.merge_claims.specs.inside.Stands.{Clean}
use Rattle.merge_claims.specs.inside.Fair.{Fair}
use Rattle.merge_claims.proofs.Trees.{Top, text-parts, texts-clean, layout-top}
use Rattle.merge_claims.proofs.Head.{fair, merged-sound, head-clean}
use Rattle.merge_claims.proofs.Whole.{Source, left-layout, left-records, left-report}
use Rattle.merge_claims.proofs.Sizes.{bytes_of, length_moved, head-sized}
use Rattle.merge_claims.proofs.Listings.{merged-alike, listed-tree, tree-listed, report-listing}
use Rattle.merge_claims.proofs.Exactly.{Decides, decides-leb, decides-counts, decides-time, limited_by, chosen, OneOf, one_of, all_hold}
use Rattle.merge_claims.proofs.Exactly.{exactly-12, exactly-13, exactly-15, exactly-17, exactly-22, exactly-merged}

-- ---- one tree
module _ (a : Tree) (e : IsTree a) where
  abbrev area : List ℕ
  area = used_text a.text

  abbrev texts : List ℕ
  texts = filled area

  abbrev tail : List ℕ
  tail = drop (length texts) area

  abbrev top : Top texts (records_of a.words)
  top = layout-top a.words a.text e

  parts : texts ++ tail ≡ area
  parts = text-parts a.words a.text e

  clean : Clean texts
  clean = texts-clean a.words a.text e

  abbrev source : Source
  source = record {
    area = area;
    texts = texts;
    behind = tail;
    parts = parts;
    clean = clean;
    below = below_report a.words;
    held = top.below;
    order = top.order;
  }

  -- its report
  abbrev own : Report
  own = named.report_of (fields_of report area top.top) (map (suite_of area) (branches is_suite (below_report a.words)))

  own_held : Holds a own
  unfolding report_of
  own_held = ap (report_from area) top.whole

  own-only : (p : Report) → Holds a p → own ≡ p
  own-only p h = some_same own p (sym own_held ∙ h)
    where
      some_same : (p q : Report) → some p ≡ some q → p ≡ q
      some_same p q z = cc

  own-fair : Fair own
  own-fair =
      subst (λ (s : List ℕ). Fair (named.report_of (fields_of report s top.top) (map (suite_of area) (branches is_suite (below_report a.words))))) parts
      (fair texts tail top.top clean top.held top.report (map (suite_of area) (branches is_suite (below_report a.words))))

  bytes_below : length (texts_in area (below_report a.words)) ≡ text_bytes (below_report a.words)
  bytes_below = bytes_of texts tail area parts top.below

-- ---- the answer by its tests
module _ (a b : Tree) where
  abbrev reports : Option Report
  reports = merged_of a.words a.text b.words b.text

  -- the merged tree, by the report that stands first
  abbrev tree_by : Option Report → Encoding
  tree_by m =
      let s = used_text a.text in
      let t = used_text b.text in
      let fill = length (head_texts m) in
      record {
        records = head_of m ++ (moved_from s fill (below_report a.words) ++ moved_from t (fill + length (texts_in s (below_report a.words))) (below_report b.words));
        texts = head_texts m ++ (texts_in s (below_report a.words) ++ texts_in t (below_report b.words));
      }

  abbrev tree : Encoding
  tree = merged_tree a.words a.text b.words b.text

  tree-by : tree ≡ tree_by reports
  unfolding merged_tree
  tree-by = refl

  abbrev records_fit : Encoding → Room → Bool
  records_fit t n = leb (length t.records) (min (n.words / 32) most_records)

  abbrev bytes_fit : Encoding → Room → Bool
  bytes_fit t n = leb (length t.texts) (min n.bytes most_bytes)

  abbrev tests : Option Report → Encoding → Room → Answer (Unit {0})
  tests m t n = limited_by (if_any counts_fit m) (if_any time_fits m) (records_fit t n) (bytes_fit t n)

  answer-is : (n : Room) → merge_answer a.words a.text b.words b.text n.words n.bytes
      ≡ chosen (layout a.words a.text) (layout b.words b.text) (tests reports tree n)
  unfolding merge_answer limited placed
  answer-is n = refl

  -- ---- two trees
  module _ (e : IsTree a) (f : IsTree b) where
    abbrev p : Report
    p = own a e

    abbrev q : Report
    q = own b f

    abbrev m : Report
    m = merged_report p q

    reports_are : reports ≡ some m
    unfolding merged_of
    reports_are = ap₂ (both_by merged_report) (own_held a e) (own_held b f)

    tree_is : tree ≡ tree_by (some m)
    tree_is = tree-by ∙ ap tree_by reports_are

    records-many : length (tree_by (some m)).records ≡ records_needed a.words b.words
    records-many =
        let s = used_text a.text in
        let t = used_text b.text in
        let fill = length (head_texts (some m)) in
        let x = moved_from s fill (below_report a.words) in
        let y = moved_from t (fill + length (texts_in s (below_report a.words))) (below_report b.words) in
        let j : length (x ++ y) ≡ length x + length y = length-append x y in
        let k : length x ≡ length (below_report a.words) = length_moved s fill (below_report a.words) in
        let l : length y ≡ length (below_report b.words) = length_moved t (fill + length (texts_in s (below_report a.words))) (below_report b.words) in
        omega arith

    bytes-many : length (tree_by (some m)).texts ≡ bytes_needed p a.words b.words
    unfolding merged_report
    bytes-many =
        let x = texts_in (used_text a.text) (below_report a.words) in
        let y = texts_in (used_text b.text) (below_report b.words) in
        length-append (stored_in report (report_fields m)) (x ++ y)
        ∙ ap₂ (λ (i j : ℕ). i + j) (head-sized m) (length-append x y ∙ ap₂ (λ (i j : ℕ). i + j) (bytes_below a e) (bytes_below b f))

    answer-both : (n : Room) → answer_of a b n ≡ outcome_of (tests (some m) (tree_by (some m)) n)
    answer-both n =
        ap outcome_of (answer-is n)
        ∙ ap₂ (λ (x y : Bool). outcome_of (chosen x y (tests reports tree n))) e f
        ∙ ap₂ (λ (o : Option Report) (t : Encoding). outcome_of (tests o t n)) reports_are tree_is

    -- ---- what each test decides
    of-counts : Decides (counts_fit m) (CountsPast p q)
    of-counts = decides-counts p q

    of-time : Decides (time_fits m) (TimePast p q)
    of-time = decides-time p q (own-fair a e) (own-fair b f)

    of-records : (n : Room) → Decides (records_fit (tree_by (some m)) n) (RecordsShort a.words b.words n.words)
    of-records n = decides-leb (length (tree_by (some m)).records) (min (n.words / 32) most_records) (records_needed a.words b.words) records-many

    of-bytes : (n : Room) → Decides (bytes_fit (tree_by (some m)) n) (BytesShort p a.words b.words n.bytes)
    of-bytes n = decides-leb (length (tree_by (some m)).texts) (min n.bytes most_bytes) (bytes_needed p a.words b.words) bytes-many

    -- ---- the areas
    module _ (n : Room) (c : counts_fit m ≡ true) (t : time_fits m ≡ true) (r : records_fit (tree_by (some m)) n ≡ true) (u : bytes_fit (tree_by (some m)) n ≡ true) where
      answer-given : merge_answer a.words a.text b.words b.text n.words n.bytes ≡ gives tt
      answer-given =
          answer-is n
          ∙ ap₂ (λ (x y : Bool). chosen x y (tests reports tree n)) e f
          ∙ ap₂ (λ (o : Option Report) (t : Encoding). tests o t n) reports_are tree_is
          ∙ ap₂ (λ (x y : Bool). limited_by x y (records_fit (tree_by (some m)) n) (bytes_fit (tree_by (some m)) n)) c t
          ∙ ap₂ (λ (x y : Bool). limited_by true true x y) r u

      words_left : (left a b n).words ≡ laid (zeros n.words) (joined (tree_by (some m)).records)
      unfolding records_left
      words_left = ap₂ (λ (x : Answer (Unit {0})) (t : Encoding). left_for x n.words (joined t.records)) answer-given tree_is

      text-left : (left a b n).text ≡ laid (zeros n.bytes) (tree_by (some m)).texts
      unfolding text_left
      text-left = ap₂ (λ (x : Answer (Unit {0})) (t : Encoding). left_for x n.bytes t.texts) answer-given tree_is

      sound-fields : sound report (report_fields m) ≡ true
      sound-fields = merged-sound p q (own-fair a e) (own-fair b f) c t

      clean-head : Clean (stored_in report (report_fields m))
      unfolding merged_report
      clean-head = head-clean m (own-fair a e).name

      record-room : length (tree_by (some m)).records ≤ min (n.words / 32) most_records
      record-room = leb-true (length (tree_by (some m)).records) (min (n.words / 32) most_records) r

      byte-room : length (tree_by (some m)).texts ≤ min n.bytes most_bytes
      byte-room = leb-true (length (tree_by (some m)).texts) (min n.bytes most_bytes) u

      few-records : (k : ℕ) → k ≤ min (n.words / 32) most_records → (k ≤ 65536) × (k * 32 ≤ n.words)
      few-records k h = (omega arith, omega arith)

      few_bytes : (k : ℕ) → k ≤ min n.bytes most_bytes → (k ≤ 16777216) × (k ≤ n.bytes)
      few_bytes k h = (omega arith, omega arith)

      records-within : (length (tree_by (some m)).records ≤ 65536) × (length (tree_by (some m)).records * 32 ≤ n.words)
      records-within = few-records (length (tree_by (some m)).records) record-room

      bytes-within : (length (tree_by (some m)).texts ≤ 16777216) × (length (tree_by (some m)).texts ≤ n.bytes)
      bytes-within = few_bytes (length (tree_by (some m)).texts) byte-room

      is-tree : IsTree (left a b n)
      is-tree =
          let x = records-within in
          let y = bytes-within in
          ap₂ layout words_left text-left
          ∙ left-layout (source a e) (source b f) m sound-fields clean-head n.words n.bytes x.0 x.1 y.0 y.1

      none-dead : only live (records_of (left a b n).words) ≡ records_of (left a b n).words
      none-dead =
          let x = records-within in
          let y = bytes-within in
          subst (λ (w : List ℕ). only live (records_of w) ≡ records_of w) (sym words_left)
          (left-records (source a e) (source b f) m sound-fields clean-head n.words n.bytes x.0 x.1 y.0 y.1)

      suites-are : m.suites ≡ p.suites ++ q.suites
      unfolding merged_report
      suites-are = refl

      holds-merged : Holds (left a b n) m
      holds-merged =
          let x = records-within in
          let y = bytes-within in
          ap₂ report_of words_left text-left
          ∙ left-report (source a e) (source b f) m sound-fields clean-head n.words n.bytes x.0 x.1 y.0 y.1 suites-are

-- ---- where the two were merged
record Merged (a b : Tree) (n : Room) : Type 0 where
  first : IsTree a
  second : IsTree b
  counts : counts_fit (m a b first second) ≡ true
  tree : IsTree (left a b n)
  live : only live (records_of (left a b n).words) ≡ records_of (left a b n).words
  holds : Holds (left a b n) (m a b first second)

merged-tree : (a b : Tree) (n : Room) → answer_of a b n ≡ accepted tt → Merged a b n
merged-tree a b n h =
    let z = all_hold (layout a.words a.text) (layout b.words b.text) (if_any counts_fit (reports a b)) (if_any time_fits (reports a b))
    (records_fit a b (tree a b) n) (bytes_fit a b (tree a b) n) (sym (ap outcome_of (answer-is a b n)) ∙ h) in
    let e = z.0.0 in
    let f = z.0.1 in
    let c = sym (ap (if_any counts_fit) (reports_are a b e f)) ∙ z.1 in
    let t = sym (ap (if_any time_fits) (reports_are a b e f)) ∙ z.2 in
    let r = sym (ap (λ (x : Encoding). records_fit a b x n) (tree_is a b e f)) ∙ z.3 in
    let u = sym (ap (λ (x : Encoding). bytes_fit a b x n) (tree_is a b e f)) ∙ z.4 in
    record {
      first = e;
      second = f;
      counts = c;
      tree = is-tree a b e f n c t r u;
      live = none-dead a b e f n c t r u;
      holds = holds-merged a b e f n c t r u;
    }

-- what is claimed of the two trees' own reports is claimed of those that they hold
of-held : (a b : Tree) (p q : Report) (h : Both a b p q) (P : Report → Report → Type 0) → P (own a h.first) (own b h.second) → P p q
of-held a b p q h P z =
    subst (λ (y : Report). P p y) (own-only b h.second q h.second_report)
    (subst (λ (x : Report). P x (own b h.second)) (own-only a h.first p h.first_report) z)

module _ (a b : Tree) (n : Room) (p q : Report) (h : Both a b p q) where
  abbrev e : IsTree a
  e = h.first

  abbrev f : IsTree b
  f = h.second

  abbrev o : Report
  o = m a b e f

  abbrev c : Bool
  c = counts_fit o

  abbrev t : Bool
  t = time_fits o

  abbrev r : Bool
  r = records_fit a b (tree_by a b (some o)) n

  abbrev u : Bool
  u = bytes_fit a b (tree_by a b (some o)) n

  abbrev Answered : Outcome (Unit {0}) → Type 0
  Answered x = answer_of a b n ≡ x

  -- the answer is that of the tests
  by_tests : {Q : Type 0} (x : Outcome (Unit {0})) → (outcome_of (limited_by c t r u) ≡ x) ↔ Q → Answered x ↔ Q
  by_tests x d = (λ g. d.0 (sym (answer-both a b e f n) ∙ g), λ g. answer-both a b e f n ∙ d.1 g)

  exactly17 : (answer_of a b n ≡ refused (late cause.CountLimit)) ↔ CountsPast p q
  exactly17 = of-held a b p q h (λ x y. (answer_of a b n ≡ refused (late cause.CountLimit)) ↔ CountsPast x y)
      (by_tests (refused (late cause.CountLimit)) (exactly-17 c t r u (of-counts a b e f)))

  exactly22 : (answer_of a b n ≡ refused (late time_limit)) ↔ ((¬ CountsPast p q) × TimePast p q)
  exactly22 = of-held a b p q h (λ x y. (answer_of a b n ≡ refused (late time_limit)) ↔ ((¬ CountsPast x y) × TimePast x y))
      (by_tests (refused (late time_limit)) (exactly-22 c t r u (of-counts a b e f) (of-time a b e f)))

  exactly12 : (answer_of a b n ≡ refused (late cause.RecordsSpent)) ↔ ((¬ CountsPast p q) × (¬ TimePast p q) × RecordsShort a.words b.words n.words)
  exactly12 =
      of-held a b p q h (λ x y. (answer_of a b n ≡ refused (late cause.RecordsSpent)) ↔ ((¬ CountsPast x y) × (¬ TimePast x y) × RecordsShort a.words b.words n.words))
      (by_tests (refused (late cause.RecordsSpent)) (exactly-12 c t r u (of-counts a b e f) (of-time a b e f) (of-records a b e f n)))

  abbrev Thirteen : Report → Report → Type 0
  Thirteen x y = (¬ CountsPast x y) × (¬ TimePast x y) × (¬ RecordsShort a.words b.words n.words) × BytesShort x a.words b.words n.bytes

  exactly13 : (answer_of a b n ≡ refused (late cause.TextFull)) ↔ Thirteen p q
  exactly13 =
      of-held a b p q h (λ x y. (answer_of a b n ≡ refused (late cause.TextFull)) ↔ Thirteen x y)
      (by_tests (refused (late cause.TextFull)) (exactly-13 c t r u (of-counts a b e f) (of-time a b e f) (of-records a b e f n) (of-bytes a b e f n)))

  abbrev None : Report → Report → Type 0
  None x y = (¬ CountsPast x y) × (¬ TimePast x y) × (¬ RecordsShort a.words b.words n.words) × (¬ BytesShort x a.words b.words n.bytes)

  exactly_merged : (answer_of a b n ≡ accepted tt) ↔ None p q
  exactly_merged =
      of-held a b p q h (λ x y. (answer_of a b n ≡ accepted tt) ↔ None x y)
      (by_tests (accepted tt) (exactly-merged c t r u (of-counts a b e f) (of-time a b e f) (of-records a b e f n) (of-bytes a b e f n)))

-- ---- D
listing-of : (a : Tree) (p : Report) (x : List ℕ) → Holds a p → Listed a x → x ≡ render p
listing-of a p x h l = (listed-tree a x l).1 ∙ report-listing a p h

same-listing : (a b c d : Tree) (n k : Room) (x y v w : List ℕ) → Listed a x → Listed c x → Listed b y → Listed d y
    → answer_of a b n ≡ accepted tt → answer_of c d k ≡ accepted tt → Listed (left a b n) v → Listed (left c d k) w → v ≡ w
same-listing a b c d n k x y v w la lc lb ld g h lv lw =
    let s = merged-tree a b n g in
    let t = merged-tree c d k h in
    let p = own a s.first in
    let q = own b s.second in
    let p' = own c t.first in
    let q' = own d t.second in
    let i : render p ≡ render p' = sym (listing-of a p x (own_held a s.first) la) ∙ listing-of c p' x (own_held c t.first) lc in
    let j : render q ≡ render q' = sym (listing-of b q y (own_held b s.second) lb) ∙ listing-of d q' y (own_held d t.second) ld in
    listing-of (left a b n) (merged_report p q) v s.holds lv ∙ merged-alike p q p' q' s.counts t.counts i j
    ∙ sym (listing-of (left c d k) (merged_report p' q') w t.holds lw)

-- ---- all of it
holds-both : (a b : Tree) (n : Room) (p q : Report) → answer_of a b n ≡ accepted tt → Holds a p → Holds b q → Holds (left a b n) (merged_report p q)
holds-both a b n p q g h k =
    let s = merged-tree a b n g in
    of-held a b p q (record { first = s.first; second = s.second; first_report = h; second_report = k }) (λ x y. Holds (left a b n) (merged_report x y)) s.holds

refuses-only : (a b : Tree) (n : Room) (why : Refused) → answer_of a b n ≡ refused why → OneOf why × (left a b n ≡ zeroed n)
unfolding records_left text_left
refuses-only a b n why g =
    let z = one_of (layout a.words a.text) (layout b.words b.text) (if_any counts_fit (reports a b)) (if_any time_fits (reports a b))
    (records_fit a b (tree a b) n) (bytes_fit a b (tree a b) n) why (sym (ap outcome_of (answer-is a b n)) ∙ g) in
    let i : (left a b n).words ≡ zeros n.words = ap (λ (x : Answer (Unit {0})). left_for x n.words (joined (tree a b).records)) (answer-is a b n) ∙ z.1 n.words (joined (tree a b).records) in
    let j : (left a b n).text ≡ zeros n.bytes = ap (λ (x : Answer (Unit {0})). left_for x n.bytes (tree a b).texts) (answer-is a b n) ∙ z.1 n.bytes (tree a b).texts in
    (z.0, λ k. record { words = i k; text = j k })

exactly15 : (a b : Tree) (n : Room) → (answer_of a b n ≡ refused (late cause.NotLayout)) ↔ ((layout a.words a.text ≡ false) ⊎ (layout b.words b.text ≡ false))
exactly15 a b n =
    let d = exactly-15 (layout a.words a.text) (layout b.words b.text) (if_any counts_fit (reports a b)) (if_any time_fits (reports a b))
    (records_fit a b (tree a b) n) (bytes_fit a b (tree a b) n) in
    (λ g. d.0 (sym (ap outcome_of (answer-is a b n)) ∙ g), λ g. ap outcome_of (answer-is a b n) ∙ d.1 g)

pub merging : Merging
merging = record {
  is_tree = λ a b n g. (merged-tree a b n g).tree;
  none_dead = λ a b n g. (merged-tree a b n g).live;
  holds = holds-both;
  a_report = λ a e. (own a e, own_held a e);
  fifteen = exactly15;
  seventeen = exactly17;
  twenty_two = exactly22;
  twelve = exactly12;
  thirteen = exactly13;
  merges = exactly_merged;
  refuses_only = refuses-only;
  same_listing = same-listing;
  own_listing = λ a p e h. subst (Listed a) (report-listing a p h) (tree-listed a e);
  one_listing = λ a x y h k. (listed-tree a x h).1 ∙ sym (listed-tree a y k).1;
}
