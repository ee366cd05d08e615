-- The rows before the open suite, before the open case and before its status, and how many they are. Assumes nothing.
use Prim.Native.Nat.{ℕ, ◌+◌}
use mathlib.Core.List.{List, ◌∷◌, ◌++◌, map, append_assoc}
use mathlib.Core.Option.{some}
use mathlib.Core.Path.{◌≡◌, sym, ap, ◌∙◌}
use native.Mathlib.Omega.{arith}
use lib.ListN.{length, length-append, length-map}
use Rattle.tree_placed.specs.of_tree_record.Kinds as kind
use Rattle.tree_placed.specs.of_tree_report.Report.{TestCaseStatus, TestCase, TestSuite, Report}
use Rattle.tree_placed.specs.of_tree_report.inside.Cells.{Row, pair_row_of, status_rows, case_row, case_rows, rows_of_each, suite_row, suite_rows, report_row, rows_of}
use Rattle.build_report.specs.Operations.{on_last, last_in, with_cases, with_status, on_suite, on_case, on_status}
use Rattle.build_report.specs.Stands.{all_but_last, suite_mark, case_mark, main_mark}
use Rattle.build_report.proofs.Lasts.{rows_last, rows-on-last}

-- ---- the rows before
abbrev pub before_suite : Report → List Row
before_suite r = report_row r ∷ rows_of_each suite_rows (all_but_last r.suites)

-- of a suite, before its open case
abbrev pub before_case : TestSuite → List Row
before_case s =
    suite_row s ∷ (map (pair_row_of kind.suite_extra) s.extra ++ (map (pair_row_of kind.suite_property) s.properties ++ rows_of_each case_rows (all_but_last s.cases)))

-- of a case, before its status
abbrev pub before_status : TestCase → List Row
before_status c = case_row c ∷ (map (pair_row_of kind.case_extra) c.extra ++ map (pair_row_of kind.case_property) c.properties)

abbrev pub up_to_case : Report → TestSuite → List Row
up_to_case r s = before_suite r ++ before_case s

abbrev pub up_to_status : Report → TestSuite → TestCase → List Row
up_to_status r s c = up_to_case r s ++ before_status c

-- ---- how many
pub length-before-suite : (r : Report) → length (before_suite r) ≡ suite_mark r
length-before-suite r = omega arith

pub length-before-case : (s : TestSuite) (n : ℕ) → n + length (before_case s) ≡ case_mark n s
length-before-case s n =
    let x : List Row = map (pair_row_of kind.suite_extra) s.extra in
    let p : List Row = map (pair_row_of kind.suite_property) s.properties in
    let cs : List Row = rows_of_each case_rows (all_but_last s.cases) in
    let h : length (x ++ (p ++ cs)) ≡ length x + length (p ++ cs) = length-append x (p ++ cs) in
    let k : length (p ++ cs) ≡ length p + length cs = length-append p cs in
    let a : length x ≡ length s.extra = length-map s.extra (pair_row_of kind.suite_extra) in
    let b : length p ≡ length s.properties = length-map s.properties (pair_row_of kind.suite_property) in
    omega arith

pub length-before-status : (c : TestCase) (n : ℕ) → n + length (before_status c) ≡ main_mark n c
length-before-status c n =
    let x : List Row = map (pair_row_of kind.case_extra) c.extra in
    let p : List Row = map (pair_row_of kind.case_property) c.properties in
    let h : length (x ++ p) ≡ length x + length p = length-append x p in
    let a : length x ≡ length c.extra = length-map c.extra (pair_row_of kind.case_extra) in
    let b : length p ≡ length c.properties = length-map c.properties (pair_row_of kind.case_property) in
    omega arith

pub length-up_to-case : (r : Report) (s : TestSuite) → length (up_to_case r s) ≡ case_mark (suite_mark r) s
length-up_to-case r s =
    length-append (before_suite r) (before_case s) ∙ ap (λ (n : ℕ). n + length (before_case s)) (length-before-suite r) ∙ length-before-case s (suite_mark r)

pub length-up_to-status : (r : Report) (s : TestSuite) (c : TestCase) → length (up_to_status r s c) ≡ main_mark (case_mark (suite_mark r) s) c
length-up_to-status r s c =
    length-append (up_to_case r s) (before_status c) ∙ ap (λ (n : ℕ). n + length (before_status c)) (length-up_to-case r s)
    ∙ length-before-status c (case_mark (suite_mark r) s)

-- ---- the rows of a suite, cut before its open case
cut : (x p cs rows : List Row) → x ++ (p ++ (cs ++ rows)) ≡ (x ++ (p ++ cs)) ++ rows
cut x p cs rows = simp append_assoc

module _ (s : TestSuite) {c : TestCase} (d : last_in s.cases ≡ some c) where
  extras : List Row
  extras = map (pair_row_of kind.suite_extra) s.extra

  properties : List Row
  properties = map (pair_row_of kind.suite_property) s.properties

  pub suite-case : suite_rows s ≡ before_case s ++ case_rows c
  unfolding extras properties
  suite-case =
      ap (λ (l : List Row). suite_row s ∷ (extras ++ (properties ++ l))) (rows_last case_rows s.cases d)
      ∙ ap (λ (l : List Row). suite_row s ∷ l) (cut extras properties (rows_of_each case_rows (all_but_last s.cases)) (case_rows c))

  pub suite-on-case : (f : TestCase → TestCase) → suite_rows (with_cases s s.counts (on_last f s.cases)) ≡ before_case s ++ case_rows (f c)
  unfolding extras properties
  suite-on-case f =
      ap (λ (l : List Row). suite_row s ∷ (extras ++ (properties ++ l))) (rows-on-last case_rows f s.cases d)
      ∙ ap (λ (l : List Row). suite_row s ∷ l) (cut extras properties (rows_of_each case_rows (all_but_last s.cases)) (case_rows (f c)))

-- the rows of a case, cut before its status
pub case-status : (c : TestCase) → case_rows c ≡ before_status c ++ status_rows c.status
case-status c =
    ap (λ (l : List Row). case_row c ∷ l)
    (sym (append_assoc (map (pair_row_of kind.case_extra) c.extra) (map (pair_row_of kind.case_property) c.properties) (status_rows c.status)))

-- ---- the rows of a report, cut before its open suite
module _ (r : Report) {s : TestSuite} (e : last_in r.suites ≡ some s) where
  pub rows-suite : rows_of r ≡ before_suite r ++ suite_rows s
  rows-suite = ap (λ (l : List Row). report_row r ∷ l) (rows_last suite_rows r.suites e)

  pub rows-on-suite : (f : TestSuite → TestSuite) → rows_of (on_suite f r) ≡ before_suite r ++ suite_rows (f s)
  rows-on-suite f = ap (λ (l : List Row). report_row r ∷ l) (rows-on-last suite_rows f r.suites e)

-- before its open case, and before that case's status
module _ (r : Report) {s : TestSuite} {c : TestCase} (e : last_in r.suites ≡ some s) (d : last_in s.cases ≡ some c) where
  pub rows-case : rows_of r ≡ up_to_case r s ++ case_rows c
  rows-case = rows-suite r e ∙ ap (λ (l : List Row). before_suite r ++ l) (suite-case s d) ∙ sym (append_assoc (before_suite r) (before_case s) (case_rows c))

  pub rows-on-case : (f : TestCase → TestCase) → rows_of (on_case f r) ≡ up_to_case r s ++ case_rows (f c)
  rows-on-case f =
      rows-on-suite r e (λ t. with_cases t t.counts (on_last f t.cases))
      ∙ ap (λ (l : List Row). before_suite r ++ l) (suite-on-case s d f) ∙ sym (append_assoc (before_suite r) (before_case s) (case_rows (f c)))

  pub rows-status : rows_of r ≡ up_to_status r s c ++ status_rows c.status
  rows-status =
      rows-case ∙ ap (λ (l : List Row). up_to_case r s ++ l) (case-status c) ∙ sym (append_assoc (up_to_case r s) (before_status c) (status_rows c.status))

  pub rows-on-status : (f : TestCaseStatus → TestCaseStatus) → rows_of (on_status f r) ≡ up_to_status r s c ++ status_rows (f c.status)
  rows-on-status f =
      rows-on-case (λ t. with_status t (f t.status))
      ∙ ap (λ (l : List Row). up_to_case r s ++ l) (case-status (with_status c (f c.status)))
      ∙ sym (append_assoc (up_to_case r s) (before_status c) (status_rows (f c.status)))
