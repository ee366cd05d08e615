-- What is known of a layout's records: the report's comes first among the live ones, and all are good. Assumes nothing.
use Prim.Native.Nat.{ℕ, ◌*◌, ◌≤◌}
use mathlib.Core.Bool.{Bool, true, false, cond, ◌&&◌, false≢true}
use mathlib.Core.List.{List, [], ◌∷◌, map}
use mathlib.Core.Option.{some}
use mathlib.Core.Path.{◌≡◌, refl, sym, ap, ◌∙◌}
use lib.ListN.{length, drop}
use Rattle.merge_records.proofs.of_schema.Tests.{and_left, and_right}
use Rattle.merge_records.specs.of_schema.Schema.{report}
use Rattle.merge_records.specs.of_schema.Texts.{fields_of}
use Rattle.merge_records.specs.of_schema.Elements as named
use Rattle.merge_records.proofs.of_list_sums.Used.{records-used}
use Rattle.merge_records.specs.of_tree_record.Record.{has_bit, live}
use Rattle.merge_records.specs.of_tree_report.Report.{TestSuite}
use Rattle.merge_records.specs.of_tree_report.Fields.{is_report, is_suite, is_case, is_suite_extra, is_case_extra, is_suite_property, is_case_property}
use Rattle.merge_records.specs.of_tree_report.Layout.{used_words, used_text, filled, good_text, zero_at, good_record, all_good, all_zero}
use Rattle.merge_records.specs.of_tree_report.inside.Parts.{good_report, good_common, good_counts, only_bits, report_bits, slot}
use Rattle.merge_records.specs.of_tree_report.Layout.{nothing, may_follow, following, good_order, records_of, layout}
use Rattle.merge_records.specs.of_tree_report.ReportOf.{only, branches, suite_of, report_from, report_of}
use Rattle.merge_records.proofs.of_tree_report.ByKind.{record-parts}
use Rattle.merge_records.proofs.of_tree_report.ByTable.{report-good}
use Rattle.merge_records.proofs.of_tree_layout.Filling.{fill-fits}
use Rattle.merge_head.specs.of_tree_merge.Answer.{is_below, below_report}
use Rattle.merge_head.specs.inside.Head.{first_of}
use Rattle.merge_records.specs.inside.Copied.{below_in}
use Rattle.merger.specs.inside.Whole.{report_in}

abbrev rest_of : List (List ℕ) → List (List ℕ)
rest_of [] = []
rest_of (r ∷ rs) = rs

-- ---- the first live record
order-next : (r : List ℕ) (rs : List (List ℕ)) → good_order nothing (r ∷ rs) ≡ cond (live r) (may_follow nothing r && good_order (following nothing r) rs) (good_order nothing rs)
unfolding good_order
order-next r rs = refl

order-none : good_order nothing [] ≡ false
unfolding good_order
order-none = refl

is-report : (r : List ℕ) → may_follow nothing r ≡ true → is_report r ≡ true
unfolding may_follow
is-report r h = go (is_report r) (is_suite r) (is_case r) (is_suite_extra r) (is_case_extra r) (is_suite_property r) (is_case_property r) h
  where
    go : (a b c d e f g : Bool) → cond a true (cond b false (cond c false (cond d false (cond e false (cond f false (cond g false false)))))) ≡ true → a ≡ true
    go true b c d e f g h = refl
    go false true c d e f g h = absurd (false≢true h)
    go false false true d e f g h = absurd (false≢true h)
    go false false false true e f g h = absurd (false≢true h)
    go false false false false true f g h = absurd (false≢true h)
    go false false false false false true g h = absurd (false≢true h)
    go false false false false false false true h = absurd (false≢true h)
    go false false false false false false false h = absurd (false≢true h)

-- of live records, the first is a good report's
record First (g : List ℕ) (ls : List (List ℕ)) : Type 0 where
  good : good_record g (first_of ls) ≡ true
  alive : live (first_of ls) ≡ true
  kind : is_report (first_of ls) ≡ true
  split : ls ≡ first_of ls ∷ rest_of ls

first_live : (g : List ℕ) (rs : List (List ℕ)) → all_good g rs ≡ true → good_order nothing rs ≡ true → First g (only live rs)
first_live g [] a o = absurd (false≢true (sym order-none ∙ o))
first_live g (r ∷ rs) a o =
    let rest = and_right (good_record g r) (all_good g rs) a in
    go (live r) refl (sym (order-next r rs) ∙ o) (λ (q : good_order nothing rs ≡ true). first_live g rs rest q)
  where
    go : (t : Bool) → live r ≡ t → cond t (may_follow nothing r && good_order (following nothing r) rs) (good_order nothing rs) ≡ true
        → (good_order nothing rs ≡ true → First g (only live rs)) → First g (cond t (r ∷ only live rs) (only live rs))
    go true e h k = record {
      good = and_left (good_record g r) (all_good g rs) a;
      alive = e;
      kind = is-report r (and_left (may_follow nothing r) (good_order (following nothing r) rs) h);
      split = refl;
    }
    go false e h k = k h

-- ---- its fields are good
report-record : (g r : List ℕ) → live r ≡ true → is_report r ≡ true → good_record g r ≡ true → good_report g r ≡ true
report-record g r l k h = rw (l, k) at (sym (record-parts g r) ∙ h)

common : (g r : List ℕ) → good_report g r ≡ true → good_common g r ≡ true
common g r h =
    let rest : Bool = slot (has_bit 1 r) true (zero_at r 4 4) && good_counts r in
    let p = and_right (only_bits report_bits r) (good_common g r && rest) (sym (report-good g r) ∙ h) in
    and_left (good_common g r) rest p

-- ---- a layout
module _ (words text : List ℕ) where
  abbrev pub texts : List ℕ
  texts = used_text text

  abbrev pub own : List ℕ
  own = report_in (used_words words)

  pub record Facts : Type 0 where
    pub good : all_good (filled texts) (records_of words) ≡ true
    pub inside : length (filled texts) ≤ length texts
    pub head : good_common (filled texts) own ≡ true
    pub suites : List TestSuite
    pub shown : report_of words text ≡ some (named.report_of (fields_of report texts own) suites)

  own_first : own ≡ first_of (only live (records_of words))
  unfolding report_in
  own_first = ap (λ (rs : List (List ℕ)). first_of (only live rs)) (records-used words)

  pub below-same : below_in (used_words words) ≡ below_report words
  unfolding below_in
  below-same = ap (only is_below) (records-used words)

  parts : layout words text ≡ true → (all_good (filled texts) (records_of words) ≡ true) × (good_order nothing (records_of words) ≡ true)
  unfolding layout
  parts e =
      let good = all_good (filled texts) (records_of words) in
      let order = good_order nothing (records_of words) in
      let zero = all_zero (drop (length (records_of words) * 32) (used_words words)) in
      let p = and_right (good_text texts) (good && (order && zero)) e in
      (and_left good (order && zero) p, and_left order zero (and_right good (order && zero) p))

  shown-first : (rest : List (List ℕ)) → only live (records_of words) ≡ own ∷ rest
      → report_of words text ≡ some (named.report_of (fields_of report texts own) (map (suite_of texts) (branches is_suite rest)))
  unfolding report_of
  shown-first rest e = ap (report_from texts) e

  pub tree-facts : layout words text ≡ true → Facts
  tree-facts e =
      let p = parts e in
      let f = first_live (filled texts) (records_of words) p.0 p.1 in
      let rest = rest_of (only live (records_of words)) in
      let o = own_first in
      let h = common (filled texts) (first_of (only live (records_of words))) (report-record (filled texts) (first_of (only live (records_of words))) f.alive f.kind f.good) in
      record {
        good = p.0;
        inside = fill-fits texts (length (filled texts)) refl;
        head = ap (good_common (filled texts)) o ∙ h;
        suites = map (suite_of texts) (branches is_suite rest);
        shown = shown-first rest (f.split ∙ ap (λ (r : List ℕ). r ∷ rest) (sym o));
      }
