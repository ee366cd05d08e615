-- A suite or a case more: the rows, and the marks. Assumes nothing.
use Prim.Native.Nat.{◌+◌}
use mathlib.Core.Bool.{cond}
use mathlib.Core.List.{List, [], ◌∷◌, ◌++◌, map, append_assoc}
use mathlib.Core.Option.{some}
use mathlib.Core.Path.{◌≡◌, refl, sym, ap, ◌∙◌}
use native.Mathlib.Omega.{arith}
use lib.ListN.{length, length-append, length-map}
use Rattle.tree_placed.specs.of_refusal.Refusal.{nowhere}
use Rattle.tree_placed.specs.of_tree_record.Kinds as kind
use Rattle.build_draft.specs.of_tree_counts.declared.Outcome.{Outcome}
use Rattle.tree_placed.specs.of_tree_report.Report.{Text, TestCase, TestSuite, Report}
use Rattle.tree_placed.specs.of_tree_report.inside.Cells.{Row, pair_row_of, status_rows, case_row, case_rows, rows_of_each, suite_row, suite_rows, report_row, rows_of}
use Rattle.build_draft.specs.declared.Builder.{Builder}
use Rattle.build_report.specs.Operations.{last_in, has_main, new_suite, new_case, new_status, with_suites, with_cases, on_suite, sum, one_more_of, add_test_case}
use Rattle.build_report.specs.Stands.{all_but_last, suite_mark, case_mark, main_mark, Marked}
use Rattle.build_report.proofs.Lasts.{last-append, others-append, rows_more, last_on}
use Rattle.build_report.proofs.Openings.{before_suite, rows-suite, rows-on-suite, length-before-suite}
use Rattle.build_report.proofs.Marks.{marked-suite-alone, marked-open, suite-mark_on}

-- ---- a suite
module _ (r : Report) (name : Text) where
  abbrev pub with_suite : Report
  with_suite = with_suites r (r.suites ++ (new_suite name ∷ []))

  pub rows-new-suite : rows_of with_suite ≡ rows_of r ++ (suite_row (new_suite name) ∷ [])
  rows-new-suite = ap (λ (l : List Row). report_row r ∷ l) (rows_more suite_rows r.suites (new_suite name))

  suite-at-end : suite_mark with_suite ≡ length (rows_of r)
  suite-at-end = let e = ap (λ (ss : List TestSuite). length (rows_of_each suite_rows ss)) (others-append r.suites (new_suite name)) in omega arith

  pub marked-new-suite : {b : Builder} → b.report ≡ 0 → b.suite ≡ length (rows_of r) → b.case ≡ nowhere → b.main ≡ nowhere → Marked b with_suite
  marked-new-suite h a c n = marked-suite-alone with_suite (last-append r.suites (new_suite name)) refl h (a ∙ sym suite-at-end) c n

-- ---- a case
module _ (r : Report) {s : TestSuite} (e : last_in r.suites ≡ some s) (name : Text) (o : Outcome) where
  abbrev counted : TestSuite → TestSuite
  counted t = with_cases t (sum t.counts (one_more_of o)) t.cases

  abbrev grown : TestSuite → TestSuite
  grown t = with_cases t (sum t.counts (one_more_of o)) (t.cases ++ (new_case name o ∷ []))

  -- the open suite's counts raised, and a case's rows behind all others
  pub rows-new-case : rows_of (add_test_case name o r) ≡ rows_of (on_suite counted r) ++ (case_row (new_case name o) ∷ status_rows (new_status o))
  rows-new-case =
      let x : List Row = map (pair_row_of kind.suite_extra) s.extra in
      let p : List Row = map (pair_row_of kind.suite_property) s.properties in
      let q : List Row = rows_of_each case_rows s.cases in
      let n : List Row = case_rows (new_case name o) in
      rows-on-suite r e grown ∙ ap (λ (l : List Row). before_suite r ++ (suite_row (counted s) ∷ (x ++ (p ++ l)))) (rows_more case_rows s.cases (new_case name o))
      ∙ behind (before_suite r) x p q n (suite_row (counted s)) ∙ sym (ap (λ (l : List Row). l ++ n) (rows-on-suite r e counted))
    where
      behind : (b x p q n : List Row) (h : Row) → b ++ (h ∷ (x ++ (p ++ (q ++ n)))) ≡ (b ++ (h ∷ (x ++ (p ++ q)))) ++ n
      behind b x p q n h = simp append_assoc

  case-at-end : case_mark (suite_mark (add_test_case name o r)) (grown s) ≡ length (rows_of r)
  case-at-end =
      let x : List Row = map (pair_row_of kind.suite_extra) s.extra in
      let p : List Row = map (pair_row_of kind.suite_property) s.properties in
      let q : List Row = rows_of_each case_rows s.cases in
      let n : suite_mark (add_test_case name o r) ≡ suite_mark r = suite-mark_on grown r e in
      let k : length (rows_of_each case_rows (all_but_last (s.cases ++ (new_case name o ∷ [])))) ≡ length q =
      ap (λ (l : List TestCase). length (rows_of_each case_rows l)) (others-append s.cases (new_case name o)) in
      let h : length (rows_of r) ≡ length (before_suite r) + length (suite_rows s) = ap length (rows-suite r e) ∙ length-append (before_suite r) (suite_rows s) in
      let b = length-before-suite r in
      let i : length (x ++ (p ++ q)) ≡ length x + length (p ++ q) = length-append x (p ++ q) in
      let j : length (p ++ q) ≡ length p + length q = length-append p q in
      let y : length x ≡ length s.extra = length-map s.extra (pair_row_of kind.suite_extra) in
      let z : length p ≡ length s.properties = length-map s.properties (pair_row_of kind.suite_property) in
      omega arith

  -- a main stands directly behind
  pub marked-new-case : {b : Builder} → b.report ≡ 0 → b.suite ≡ suite_mark r → b.case ≡ length (rows_of r)
      → b.main ≡ cond (has_main (new_status o)) (length (rows_of r) + 1) nowhere → Marked b (add_test_case name o r)
  marked-new-case h a c n =
      let k = case-at-end in
      let m : length (rows_of r) + 1 ≡ main_mark (case_mark (suite_mark (add_test_case name o r)) (grown s)) (new_case name o) = omega arith in
      marked-open (add_test_case name o r) (last_on grown r.suites e) (last-append s.cases (new_case name o)) h
      (a ∙ sym (suite-mark_on grown r e)) (c ∙ sym k) (n ∙ (λ i. cond (has_main (new_status o)) (m i) nowhere))
